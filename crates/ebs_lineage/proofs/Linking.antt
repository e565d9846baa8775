-- The links of nodes, and the places among them, through changes.
use Rattle.std.proofs.Common.{arith, ◌≡◌, ◌⊎◌, inl, inr, ℕ, ◌+◌, ◌<◌, cond, true, Option, Some, None, IsSome, is_some, refl, sym, ap, subst, ◌∙◌}
use Rattle.std.proofs.lemmas.Bool.{false≢true}
use Rattle.std.specs.Option.{option_map}
use Rattle.std.specs.Ordering.{nat_cmp}
use Rattle.std.specs.Cmp.{nat_cmp_total}
use Rattle.std.specs.FinMap as map
use Rattle.std.specs.FinMap.{same_map, nat_cmp-IsAntisymmetric, get-remove, get-empty}
use Rattle.ebs_tables.proofs.FullLaws.{flat, get-full}
use Rattle.ebs_model.specs.inner.MapValues.{map_values}
use Rattle.ebs_model.proofs.Values.{get-map_values}
use Rattle.ebs_lineage.specs.declared.node.Node.{Node}
use Rattle.ebs_lineage.specs.declared.place.Place.{Place}
use Rattle.ebs_lineage.specs.declared.link.Link.{Link}
use Rattle.ebs_lineage.specs.Table.{NodeMap, changed, closed_node}
use Rattle.ebs_lineage.specs.Lines.{AreLines, IsFrozen, IsHeld, IsOpen, new_node}
use Rattle.ebs_lineage.specs.Live.{IsWanted}
use Rattle.ebs_lineage.specs.Kin.{Links, first_in, next_in, newer_in, place_in, first_of, newer_of, places_of, relinked, with_first, with_newer, with_back, with_place, new_link, with_kid, IsKid, IsWantedKid, AreKin}
use Rattle.ebs_lineage.specs.Linked.{AreLinked}
use Rattle.ebs_lineage.specs.Ways.{IsNoted}
use Rattle.ebs_lineage.proofs.Changes.{same_or, unequal, changed-here, insert-here, insert-other, Keeps, came, kid-was, kid-goes, close-keeps, unborn, frozen-nodes, frozen-are, frozen-is}
use Rattle.ebs_lineage.proofs.Relinking.{relinked-here, relinked-other, kept_by, there_kept, other_kept, back_kept, back_here, back_other}
use Rattle.ebs_lineage.proofs.Listing.{listed-same, IsNewKid, listed-new}
use Rattle.ebs_lineage.proofs.Onward.{kid-one, wanted-goes, parents-changed, held-changed, held-stays, wanted-new, wanted-old, wanted-made}
use Rattle.ebs_tables.proofs.MapEdits.{tied}

none_some : {A B : Type 0} (a : A) → None ≡ Some a → B
none_some a e = absurd (cc)

some_same : {A : Type 0} (a b : A) → Some a ≡ Some b → a ≡ b
some_same a b e = cc

some_of : {A : Type 0} (o : Option A) → IsSome o → (x : A) × (o ≡ Some x)
some_of None h = absurd (false≢true h)
some_of (Some x) h = (x, refl)

-- ---- places

flat_place : (o : Option Link) → flat (option_map (λ (l : Link). l.place) o) ≡ place_in o
flat_place None = refl
flat_place (Some l) = refl

pub get-places : (links : Links) (q : ℕ) → map.get (places_of links) q ≡ place_in (map.get links q)
unfolding places_of
get-places links q =
    get-full nat_cmp_total (map_values (λ (l : Link). l.place) links) q
    ∙ ap flat (get-map_values nat_cmp_total (λ (l : Link). l.place) links q)
    ∙ flat_place (map.get links q)

pub same-places : (a b : Links) → ((q : ℕ) → place_in (map.get a q) ≡ place_in (map.get b q)) → places_of a ≡ places_of b
same-places a b h = same_map nat_cmp_total nat_cmp-IsAntisymmetric _ _ (λ q. get-places a q ∙ h q ∙ sym (get-places b q))

-- the same links lead over the same children
pub kin_noted : (nodes : NodeMap) (a b : Links) → IsNoted a b → AreKin nodes a → AreKin nodes b
kin_noted nodes a b noted = listed-same (IsWantedKid nodes) (IsWantedKid nodes) a b (λ n d kid. kid) (λ n d kid. kid)
    (λ n d kid. noted.firsts n) (λ n f e. sym (noted.firsts n) ∙ e) (λ n d kid. noted.nexts d) (λ n d kid. noted.newers d)

-- ---- a place

module _ (nodes : NodeMap) (made : ℕ) (links : Links) (linked : AreLinked nodes made links) (n : ℕ) (x : Node) (is : map.get nodes n ≡ Some x) (below : n < made) (p : Option Place) where
  abbrev placed : Links
  placed = relinked links n (with_place p)

  placed_first : (m : ℕ) → first_of placed m ≡ first_of links m
  placed_first m = kept_by links n (with_place p) first_in (other_kept first_in (with_place p) (λ l. refl)) m

  pub placed-linked : AreLinked nodes made placed
  placed-linked = record {
    there = λ m y e. kept_by links n (with_place p) is_some (there_kept (with_place p)) m ∙ linked.there m y e;
    to_come = λ m h. ap place_in (relinked-other links n (with_place p) m (λ same. let at : m ≡ n = same in absurd (omega arith))) ∙ linked.to_come m h;
    kin = listed-same (IsWantedKid nodes) (IsWantedKid nodes) links placed (λ m d kid. kid) (λ m d kid. kid)
        (λ m d kid. placed_first m) (λ m f e. sym (placed_first m) ∙ e)
        (λ m d kid. kept_by links n (with_place p) next_in (other_kept next_in (with_place p) (λ l. refl)) d)
        (λ m d kid. kept_by links n (with_place p) newer_in (other_kept newer_in (with_place p) (λ l. refl)) d) linked.kin;
  }

  place_here : place_in (map.get placed n) ≡ p
  place_here = let l = some_of (map.get links n) (linked.there n x is) in ap place_in (relinked-here links n (with_place p) ∙ ap (option_map (with_place p)) l.1)

  pub placed-place : (v : Place) → p ≡ Some v → places_of placed ≡ map.insert (places_of links) n v
  placed-place v e = same_map nat_cmp_total nat_cmp-IsAntisymmetric _ _ (λ q. elim (same_or q n) [
    | inl at ↦ ap (map.get (places_of placed)) at ∙ get-places placed n ∙ place_here ∙ e ∙ sym (insert-here (places_of links) n v) ∙ ap (map.get (map.insert (places_of links) n v)) (sym at)
    | inr off ↦ get-places placed q ∙ ap place_in (relinked-other links n (with_place p) q off) ∙ sym (get-places links q) ∙ sym (insert-other (places_of links) n v q off)
  ])

  pub placed-none : p ≡ None → places_of placed ≡ map.remove (places_of links) n
  placed-none e = same_map nat_cmp_total nat_cmp-IsAntisymmetric _ _ (λ q. elim (same_or q n) [
    | inl at ↦ ap (map.get (places_of placed)) at ∙ get-places placed n ∙ place_here ∙ e ∙ sym gone ∙ ap (map.get (map.remove (places_of links) n)) (sym at)
    | inr off ↦ get-places placed q ∙ ap place_in (relinked-other links n (with_place p) q off) ∙ sym (get-places links q) ∙ sym (kept q off)
  ])
    where
      gone : map.get (map.remove (places_of links) n) n ≡ None
      gone = get-remove nat_cmp_total (places_of links) n n ∙ ap (λ b. cond b None (map.get (places_of links) n)) (tied nat_cmp_total n)

      kept : (q : ℕ) → (q ≡ n → ⊥) → map.get (map.remove (places_of links) n) q ≡ map.get (places_of links) q
      kept q off = get-remove nat_cmp_total (places_of links) n q ∙ ap (λ b. cond b None (map.get (places_of links) q)) (unequal q n off)

-- ---- a node is changed

-- the change keeps who holds the node
pub record KeepsHold (nodes : NodeMap) (n : ℕ) (f : Node → Node) : Type 0 where
  pub was : (x : Node) → map.get nodes n ≡ Some x → (f x).is_held ≡ true → x.is_held ≡ true
  pub stays : (x : Node) → map.get nodes n ≡ Some x → x.is_held ≡ true → (f x).is_held ≡ true

module _ (nodes : NodeMap) (made : ℕ) (links : Links) (are : AreLines nodes made) (n : ℕ) (f : Node → Node) (keeps : Keeps f) where
  module _ (hold : KeepsHold nodes n f) where
    wanted_was : (d : ℕ) → IsWanted (changed nodes n f) d → IsWanted nodes d
    wanted_was = wanted-goes (changed nodes n f) nodes (λ q. sym (parents-changed nodes n f keeps q)) (held-changed nodes n f hold.was)

    wanted_stays : (d : ℕ) → IsWanted nodes d → IsWanted (changed nodes n f) d
    wanted_stays = wanted-goes nodes (changed nodes n f) (parents-changed nodes n f keeps) (held-stays nodes n f hold.stays)

    pub linked-changed : AreLinked nodes made links → AreLinked (changed nodes n f) made links
    linked-changed linked = record {
      there = λ m y e. let was = came nodes made are n f keeps m y e in linked.there m was.0 was.1;
      to_come = linked.to_come;
      kin = listed-same (IsWantedKid nodes) (IsWantedKid (changed nodes n f)) links links
          (λ m d kid. (kid-goes nodes made are n f keeps m d kid.0, wanted_stays d kid.1)) (λ m d kid. (kid-was nodes made are n f keeps m d kid.0, wanted_was d kid.1))
          (λ m d kid. refl) (λ m c e. e) (λ m d kid. refl) (λ m d kid. refl) linked.kin;
    }

-- ---- a new node without a parent

module _ (nodes : NodeMap) (made : ℕ) (links : Links) (are : AreLines nodes made) (linked : AreLinked nodes made links) where
  older : (n d : ℕ) → IsKid nodes n d → (n < made) × (d < made)
  older n d (y, is, up) = let below : d < made = are.numbers d y is in let low = (are.parents d n y is up).0 in (omega arith, below)

  placeless : (v : Link) → v.place ≡ None → (q : ℕ) → place_in (map.get (map.insert links made v) q) ≡ place_in (map.get links q)
  placeless v none q = elim (same_or q made) [
    | inl e ↦ ap (λ k. place_in (map.get (map.insert links made v) k)) e ∙ ap place_in (insert-here links made v) ∙ none ∙ sym (linked.to_come made (omega arith)) ∙ ap (λ k. place_in (map.get links k)) (sym e)
    | inr off ↦ ap place_in (insert-other links made v q off)
  ]

  module _ where
    abbrev after : NodeMap
    after = map.insert nodes made (new_node None)

    abbrev rooted : Links
    rooted = map.insert links made (new_link None)

    no_up : {A : Type 0} (p : ℕ) → None ≡ Some p → A
    no_up p e = none_some p e

    old_child : (n d : ℕ) → IsKid nodes n d → d ≡ made → ⊥
    old_child n d kid e = let below : d < made = (older n d kid).1 in let same : d ≡ made = e in omega arith

    old_parent : (n d : ℕ) → IsKid nodes n d → n ≡ made → ⊥
    old_parent n d kid e = let below : n < made = (older n d kid).0 in let same : n ≡ made = e in omega arith

    root_was : (n d : ℕ) → IsKid after n d → IsKid nodes n d
    root_was n d (y, is, up) = elim (same_or d made) [
      | inl e ↦ none_some n (ap (λ (z : Node). z.parent) (some_same (new_node None) y (sym (insert-here nodes made (new_node None)) ∙ ap (map.get after) (sym e) ∙ is)) ∙ up)
      | inr off ↦ (y, sym (insert-other nodes made (new_node None) d off) ∙ is, up)
    ]

    root_wanted_was : (n d : ℕ) → IsWantedKid after n d → IsWantedKid nodes n d
    root_wanted_was n d (kid, wanted) = let was = root_was n d kid in (was, wanted-old nodes made are None (λ p e. no_up p e) d (old_child n d was) wanted)

    root_wanted_goes : (n d : ℕ) → IsWantedKid nodes n d → IsWantedKid after n d
    root_wanted_goes n d ((y, is, up), wanted) = ((y, insert-other nodes made (new_node None) d (unborn nodes made are d y is) ∙ is, up), wanted-new nodes made are None (λ p e. no_up p e) d (unborn nodes made are d y is) wanted)

    root_other : (n : ℕ) → (n ≡ made → ⊥) → map.get rooted n ≡ map.get links n
    root_other n off = insert-other links made (new_link None) n off

    root_first : (n f : ℕ) → first_of rooted n ≡ Some f → first_of links n ≡ Some f
    root_first n f e = elim (same_or n made) [
      | inl at ↦ none_some f (sym (ap first_in (ap (map.get rooted) at ∙ insert-here links made (new_link None))) ∙ e)
      | inr off ↦ sym (ap first_in (root_other n off)) ∙ e
    ]

    root_kin : AreKin after rooted
    root_kin = listed-same (IsWantedKid nodes) (IsWantedKid after) links rooted root_wanted_goes root_wanted_was
        (λ n d kid. ap first_in (root_other n (old_parent n d kid.0))) root_first
        (λ n d kid. ap next_in (root_other d (old_child n d kid.0))) (λ n d kid. ap newer_in (root_other d (old_child n d kid.0))) linked.kin

    pub root-linked : AreLinked after (made + 1) rooted
    root-linked = record {
      there = λ m y e. elim (same_or m made) [
        | inl at ↦ ap is_some (ap (map.get rooted) at ∙ insert-here links made (new_link None))
        | inr off ↦ ap is_some (insert-other links made (new_link None) m off) ∙ linked.there m y (sym (insert-other nodes made (new_node None) m off) ∙ e)
      ];
      to_come = λ m h. placeless (new_link None) refl m ∙ linked.to_come m (omega arith);
      kin = root_kin;
    }

    pub root-places : places_of rooted ≡ places_of links
    root-places = same-places rooted links (placeless (new_link None) refl)

  -- ---- a new node with a parent

  module _ (p : ℕ) (frozen : IsFrozen nodes p) (held : IsHeld nodes p) where
    abbrev grown : NodeMap
    grown = map.insert nodes made (new_node (Some p))

    abbrev base : Links
    base = map.insert links made (new_link (first_of links p))

    abbrev backed : Links
    backed = with_back base (first_of links p) (Some made)

    abbrev led : Links
    led = with_kid links made p

    good : (q : ℕ) → Some p ≡ Some q → IsFrozen nodes q × IsHeld nodes q
    good q e = let same = some_same p q e in (subst (IsFrozen nodes) same frozen, subst (IsHeld nodes) same held)

    p_below : p < made
    p_below = are.numbers p frozen.0 frozen.1

    apart : p ≡ made → ⊥
    apart e = let same : p ≡ made = e in let below = p_below in omega arith

    kid_was' : (n d : ℕ) → IsKid grown n d → ((n ≡ p) × (d ≡ made)) ⊎ IsKid nodes n d
    kid_was' n d (y, is, up) = elim (same_or d made) [
      | inl e ↦ inl (some_same n p (sym up ∙ sym (ap (λ (z : Node). z.parent) (some_same (new_node (Some p)) y (sym (insert-here nodes made (new_node (Some p))) ∙ ap (map.get grown) (sym e) ∙ is)))), e)
      | inr off ↦ inr (y, sym (insert-other nodes made (new_node (Some p)) d off) ∙ is, up)
    ]

    kid_off : (n d : ℕ) → IsKid nodes n d → d ≡ made → ⊥
    kid_off n d kid e = let below : d < made = (older n d kid).1 in let same : d ≡ made = e in omega arith

    listed_was : (n d : ℕ) → IsWantedKid grown n d → ((n ≡ p) × (d ≡ made)) ⊎ IsWantedKid nodes n d
    listed_was n d (kid, wanted) = elim (kid_was' n d kid) [
      | inl new ↦ inl new
      | inr was ↦ inr (was, wanted-old nodes made are (Some p) good d (kid_off n d was) wanted)
    ]

    listed_goes : (n d : ℕ) → IsWantedKid nodes n d → IsWantedKid grown n d
    listed_goes n d ((y, is, up), wanted) =
        let off = unborn nodes made are d y is in
        ((y, insert-other nodes made (new_node (Some p)) d off ∙ is, up), wanted-new nodes made are (Some p) good d off wanted)

    -- what the new node's links and those of its older sibling keep
    led_kept : {A : Type 0} (g : Option Link → A) → ((c : Option ℕ) (l : Link) → g (Some (with_first c l)) ≡ g (Some l)) → ((c : Option ℕ) (l : Link) → g (Some (with_newer c l)) ≡ g (Some l)) → (q : ℕ) → g (map.get led q) ≡ g (map.get base q)
    led_kept g first newer q = kept_by backed p (with_first (Some made)) g (other_kept g (with_first (Some made)) (first (Some made))) q ∙ back_kept base g newer (first_of links p) (Some made) q

    base_here : map.get base made ≡ Some (new_link (first_of links p))
    base_here = insert-here links made (new_link (first_of links p))

    base_other : (q : ℕ) → (q ≡ made → ⊥) → map.get base q ≡ map.get links q
    base_other q off = insert-other links made (new_link (first_of links p)) q off

    first_backed : (q : ℕ) → first_of backed q ≡ first_of base q
    first_backed q = back_kept base first_in (λ c l. refl) (first_of links p) (Some made) q

    led_first : first_of led p ≡ Some made
    led_first =
        let l = some_of (map.get backed p) (back_kept base is_some (λ c l. refl) (first_of links p) (Some made) p ∙ ap is_some (base_other p apart) ∙ linked.there p frozen.0 frozen.1) in
        ap first_in (relinked-here backed p (with_first (Some made)) ∙ ap (option_map (with_first (Some made))) l.1)

    newer_led : (q : ℕ) → newer_of led q ≡ newer_of backed q
    newer_led q = kept_by backed p (with_first (Some made)) newer_in (other_kept newer_in (with_first (Some made)) (λ l. refl)) q

    first_off : (d : ℕ) → first_of links p ≡ Some d → d ≡ made → ⊥
    first_off d e = kid_off p d (linked.kin.first p d e).0

    there_first : (d : ℕ) → first_of links p ≡ Some d → is_some (map.get base d) ≡ true
    there_first d e =
        let kid = (linked.kin.first p d e).0 in
        ap is_some (base_other d (first_off d e)) ∙ linked.there d kid.0 kid.1

    new_kid : IsNewKid (IsWantedKid nodes) (IsWantedKid grown) links led made p
    new_kid = record {
      older = λ n d kid. older n d kid.0;
      alone = λ n m d one other. kid-one nodes n m d one.0 other.0;
      parent = p_below;
      was = listed_was;
      goes = listed_goes;
      kid = ((new_node (Some p), insert-here nodes made (new_node (Some p)), refl), wanted-made nodes made are (Some p) good);
      no_kids = ap first_in (relinked-other backed p (with_first (Some made)) made (λ e. apart (sym e))) ∙ first_backed made ∙ ap first_in base_here;
      is_first = led_first;
      other_first = λ n off away. ap first_in (relinked-other backed p (with_first (Some made)) n away) ∙ first_backed n ∙ ap first_in (base_other n off);
      is_next = led_kept next_in (λ c l. refl) (λ c l. refl) made ∙ ap next_in base_here;
      other_next = λ d off. led_kept next_in (λ c l. refl) (λ c l. refl) d ∙ ap next_in (base_other d off);
      is_top = newer_led made ∙ back_other base (first_of links p) (Some made) made (λ e. first_off made e refl) ∙ ap newer_in base_here;
      is_newer = λ d e. newer_led d ∙ back_here base (first_of links p) (Some made) d e (there_first d e);
      other_newer = λ d off away. newer_led d ∙ back_other base (first_of links p) (Some made) d away ∙ ap newer_in (base_other d off);
    }

    pub kid-linked : AreLinked grown (made + 1) led
    kid-linked = record {
      there = λ m y e. led_kept is_some (λ c l. refl) (λ c l. refl) m ∙ elim (same_or m made) [
        | inl at ↦ ap is_some (ap (map.get base) at ∙ base_here)
        | inr off ↦ ap is_some (base_other m off) ∙ linked.there m y (sym (insert-other nodes made (new_node (Some p)) m off) ∙ e)
      ];
      to_come = λ m h. led_kept place_in (λ c l. refl) (λ c l. refl) m ∙ placeless (new_link (first_of links p)) refl m ∙ linked.to_come m (omega arith);
      kin = listed-new (IsWantedKid nodes) (IsWantedKid grown) links led made p linked.kin new_kid;
    }

    pub kid-places : places_of led ≡ places_of links
    kid-places = same-places led links (λ q. led_kept place_in (λ c l. refl) (λ c l. refl) q ∙ placeless (new_link (first_of links p)) refl q)

-- ---- a node is frozen, and a child of it is made

module _ (nodes : NodeMap) (made : ℕ) (links : Links) (are : AreLines nodes made) (linked : AreLinked nodes made links) (n : ℕ) (is_open : IsOpen nodes n) where
  abbrev shut : NodeMap
  shut = changed nodes n (closed_node true)

  held_shut : IsHeld shut n
  held_shut = (closed_node true is_open.0, changed-here nodes n (closed_node true) ∙ ap (option_map (closed_node true)) is_open.1, refl)

  pub sealed-hold : KeepsHold nodes n (closed_node true)
  sealed-hold = record { was = λ x is holds. ap (λ (z : Node). z.is_held) (some_same x is_open.0 (sym is ∙ is_open.1)) ∙ are.open_held n is_open.0 is_open.1 is_open.2; stays = λ x is holds. refl }

  shut_linked : AreLinked shut made links
  shut_linked = linked-changed nodes made links are n (closed_node true) (close-keeps true) sealed-hold linked

  pub frozen-linked : AreLinked (changed (map.insert nodes made (new_node (Some n))) n (closed_node true)) (made + 1) (with_kid links made n)
  frozen-linked =
      subst (λ (ns : NodeMap). AreLinked ns (made + 1) (with_kid links made n)) (sym (frozen-nodes nodes made are n is_open))
      (kid-linked shut made links (frozen-are nodes made are n is_open) shut_linked n (frozen-is nodes made are n is_open n refl) held_shut)

  pub frozen-places : places_of (with_kid links made n) ≡ places_of links
  frozen-places = kid-places shut made links (frozen-are nodes made are n is_open) shut_linked n (frozen-is nodes made are n is_open n refl) held_shut

-- ---- nothing is there yet

nothing : (n : ℕ) (x : Node) → map.get (map.empty {R = nat_cmp}) n ≡ Some x → ⊥
nothing n x e = none_some x (sym (get-empty nat_cmp n) ∙ e)

no_kid : (n d : ℕ) → IsKid map.empty n d → ⊥
no_kid n d (y, is, up) = nothing d y is

pub no-links : AreLinked map.empty 0 map.empty
no-links = record {
  there = λ n x e. absurd (nothing n x e);
  to_come = λ n h. ap place_in (get-empty nat_cmp n);
  kin = record {
    first = λ n f e. none_some f (sym (ap first_in (get-empty nat_cmp n)) ∙ e);
    none = λ n d e kid. no_kid n d kid.0;
    newest = λ n f d e kid h. no_kid n d kid.0;
    next = λ n d e kid h. absurd (no_kid n d kid.0);
    oldest = λ n d c kid h other low. no_kid n d kid.0;
    between = λ n d e c kid h other low high. no_kid n d kid.0;
    newer = λ n d c kid h. absurd (no_kid n d kid.0);
    top = λ n d kid h. absurd (no_kid n d kid.0);
  };
}

pub no-places : places_of map.empty ≡ map.empty
no-places = same_map nat_cmp_total nat_cmp-IsAntisymmetric _ _ (λ q. get-places map.empty q ∙ ap place_in (get-empty nat_cmp q) ∙ sym (get-empty nat_cmp q))
