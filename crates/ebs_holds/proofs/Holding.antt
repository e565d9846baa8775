-- The nodes of holders, and their arrays, through what becomes of them.
use Rattle.std.proofs.Common.{◌≡◌, ℕ, ◌+◌, ◌<◌, ◌^◌, ◌⊎◌, inl, inr, Bool, true, false, cond, Option, Some, None, refl, sym, ap, subst, ◌∙◌}
use Rattle.std.specs.Option.{option_map}
use Rattle.std.proofs.lemmas.Bool.{false≢true}
use Rattle.std.specs.FinMap as map
use Rattle.ebs_model.specs.declared.array.Block.{Block}
use Rattle.ebs_lineage.specs.declared.node.Node.{Node}
use Rattle.ebs_lineage.specs.declared.node_id.NodeId.{NodeId}
use Rattle.ebs_lineage.specs.Table.{NodeMap, changed, put_node, ready_node, closed_node}
use Rattle.ebs_lineage.specs.Lines.{AreLines, IsHeld, IsOpen, IsFrozen, new_node, of_parent, array}
use Rattle.ebs_lineage.proofs.Changes.{Keeps, same_or, insert-here, insert-other, changed-here, changed-other, lines-new, lines-changed, others-new, array-new, unborn, array-put, others-put, put-keeps, ready-keeps, close-keeps, arrays-same, closed-same, ready-same, frozen-nodes}
use Rattle.ebs_holds.specs.declared.holder.Holder.{Holder}
use Rattle.ebs_holds.specs.Holders.{is_holder}
use Rattle.ebs_holds.specs.Orders.{exact_holders, holders_total}
use Rattle.ebs_holds.specs.Holds.{HeldBy, array_of_node, array_at, AreHeld}
use Rattle.ebs_holds.proofs.Keyed.{cases, at_key, off_key, got, left, stays}

some_same : {A : Type 0} (a b : A) → Some a ≡ Some b → a ≡ b
some_same a b e = cc

none_some : {A B : Type 0} (a : A) → None ≡ Some a → B
none_some a e = absurd (cc)

abbrev pub node : ℕ → NodeId
node number = record { number = number }

-- arrays of holders whose nodes keep theirs
pub arrays_keep : (f g : NodeMap) (held : HeldBy) → ((q : Holder) (n : NodeId) → map.get held q ≡ Some n → array g n.number ≡ array f n.number) → (q : Holder) → array_at g held q ≡ array_at f held q
arrays_keep f g held same q = by (map.get held q) refl
  where
    by : (o : Option NodeId) → map.get held q ≡ o → array_of_node g o ≡ array_of_node f o
    by None e = refl
    by (Some n) e = same q n e

-- a node that is rewritten keeps whether it is held
module _ (nodes : NodeMap) (n : ℕ) (f : Node → Node) (holds : (x : Node) → (f x).is_held ≡ x.is_held) where
  goes : (m : ℕ) (x : Node) → map.get nodes m ≡ Some x → (y : Node) × (map.get (changed nodes n f) m ≡ Some y) × (y.is_held ≡ x.is_held)
  goes m x is = elim (same_or m n) [
    | inl e ↦ (f x, ap (map.get (changed nodes n f)) e ∙ changed-here nodes n f ∙ ap (λ q. option_map f (map.get nodes q)) (sym e) ∙ ap (option_map f) is, holds x)
    | inr h ↦ (x, changed-other nodes n f m h ∙ is, refl)
  ]

  held_goes : (m : ℕ) → IsHeld nodes m → IsHeld (changed nodes n f) m
  held_goes m (x, is, h) = let y = goes m x is in (y.0, y.1, y.2 ∙ h)

  held_was : (m : ℕ) → IsHeld (changed nodes n f) m → IsHeld nodes m
  held_was m (y, is, h) = by (map.get nodes m) refl
    where
      nothing : map.get nodes m ≡ None → map.get (changed nodes n f) m ≡ None
      nothing none = elim (same_or m n) [
        | inl e ↦ ap (map.get (changed nodes n f)) e ∙ changed-here nodes n f ∙ ap (λ q. option_map f (map.get nodes q)) (sym e) ∙ ap (option_map f) none
        | inr off ↦ changed-other nodes n f m off ∙ none
      ]

      by : (o : Option Node) → map.get nodes m ≡ o → IsHeld nodes m
      by None none = none_some y (sym (nothing none) ∙ is)
      by (Some x) there = let z = goes m x there in (x, there, sym (z.2) ∙ ap (λ (w : Node). w.is_held) (some_same z.0 y (sym z.1 ∙ is)) ∙ h)

  -- so what holders have stays theirs
  pub rewritten : (made : ℕ) (held : HeldBy) → AreHeld nodes made held → Keeps f → AreHeld (changed nodes n f) made held
  rewritten made held are keeps = record {
    lines = lines-changed nodes made are.lines n f keeps;
    apart = are.apart;
    there = λ q m e. held_goes m.number (are.there q m e);
    only = λ m h. are.only m (held_was m.number h);
  }

-- a node that was closed, and the others
module _ (nodes : NodeMap) (n : ℕ) (held : Bool) where
  held_off : (m : ℕ) → (m ≡ n → ⊥) → IsHeld nodes m → IsHeld (changed nodes n (closed_node held)) m
  held_off m off (x, is, o) = (x, changed-other nodes n (closed_node held) m off ∙ is, o)

  held_before : (m : ℕ) → (m ≡ n → ⊥) → IsHeld (changed nodes n (closed_node held)) m → IsHeld nodes m
  held_before m off (x, is, o) = (x, sym (changed-other nodes n (closed_node held) m off) ∙ is, o)

  closed_here : (x : Node) → map.get nodes n ≡ Some x → map.get (changed nodes n (closed_node held)) n ≡ Some (closed_node held x)
  closed_here x is = changed-here nodes n (closed_node held) ∙ ap (option_map (closed_node held)) is

not_held : (nodes : NodeMap) (n m : ℕ) → m ≡ n → IsHeld nodes n → IsHeld (changed nodes n (closed_node false)) m → ⊥
not_held nodes n m e (x, there, _) (y, is, h) =
    let same : closed_node false x ≡ y = some_same (closed_node false x) y (sym (closed_here nodes n false x there) ∙ ap (map.get (changed nodes n (closed_node false))) (sym e) ∙ is) in
    false≢true (ap (λ (z : Node). z.is_held) same ∙ h)

module _ (nodes : NodeMap) (made : ℕ) (held : HeldBy) (are : AreHeld nodes made held) where
  pub old : (q : Holder) (n : NodeId) → map.get held q ≡ Some n → n.number ≡ made → ⊥
  old q n e = let there = are.there q n e in unborn nodes made are.lines n.number there.0 there.1

  -- ---- a new node, of a holder that had none
  module _ (up : Option ℕ) (good : (p : ℕ) → up ≡ Some p → IsFrozen nodes p) (key : Holder) (free : map.get held key ≡ None) where
    abbrev new : NodeMap
    new = map.insert nodes made (new_node up)

    pub held_new : (m : ℕ) → IsHeld nodes m → IsHeld new m
    held_new m (x, is, o) = (x, insert-other nodes made (new_node up) m (unborn nodes made are.lines m x is) ∙ is, o)

    held_made : (m : ℕ) → made ≡ m → IsHeld new m
    held_made m e = (new_node up, ap (map.get new) (sym e) ∙ insert-here nodes made (new_node up), refl)

    held_back : (m : ℕ) → IsHeld new m → (m ≡ made) ⊎ IsHeld nodes m
    held_back m (x, is, h) = elim (same_or m made) [
      | inl e ↦ inl e
      | inr off ↦ inr (x, sym (insert-other nodes made (new_node up) m off) ∙ is, h)
    ]

    pub begins : AreHeld new (made + 1) (map.insert held key (node made))
    begins = record {
      lines = lines-new nodes made are.lines up good;
      apart = λ a b n e f. elim (got holders_total exact_holders held key (node made) a n e) [
        | inl s ↦ elim (got holders_total exact_holders held key (node made) b n f) [
          | inl t ↦ s.1 ∙ sym t.1
          | inr t ↦ absurd (old b n t.2 (sym (ap (λ (i : NodeId). i.number) s.2)))
        ]
        | inr s ↦ elim (got holders_total exact_holders held key (node made) b n f) [
          | inl t ↦ absurd (old a n s.2 (sym (ap (λ (i : NodeId). i.number) t.2)))
          | inr t ↦ are.apart a b n s.2 t.2
        ]
      ];
      there = λ q n e. elim (got holders_total exact_holders held key (node made) q n e) [
        | inl s ↦ held_made n.number (ap (λ (i : NodeId). i.number) s.2)
        | inr s ↦ held_new n.number (are.there q n s.2)
      ];
      only = λ n h. elim (held_back n.number h) [
        | inl e ↦ (key, at_key holders_total exact_holders held key (node made) key refl ∙ ap (λ (m : ℕ). Some (node m)) (sym e))
        | inr was ↦ let k = are.only n was in (k.0, kept k.0 n k.1)
      ];
    }
      where
        kept : (k : Holder) (n : NodeId) → map.get held k ≡ Some n → map.get (map.insert held key (node made)) k ≡ Some n
        kept k n e = elim (cases holders_total exact_holders k key) [
          | inl t ↦ none_some n (sym free ∙ ap (map.get held) (sym t.1) ∙ e)
          | inr t ↦ off_key holders_total exact_holders held key (node made) k t.0 ∙ e
        ]

    pub begins_arrays : (q : Holder) → array_at new (map.insert held key (node made)) q ≡ cond (is_holder q key) (of_parent up (array nodes)) (array_at nodes held q)
    begins_arrays q = elim (cases holders_total exact_holders q key) [
      | inl t ↦ ap (array_of_node new) (at_key holders_total exact_holders held key (node made) q t.1) ∙ array-new nodes made are.lines up good ∙ sym (ap (λ b. cond b (of_parent up (array nodes)) (array_at nodes held q)) t.0)
      | inr t ↦ ap (array_of_node new) (off_key holders_total exact_holders held key (node made) q t.0)
          ∙ arrays_keep nodes new held (λ k n e. others-new nodes made are.lines up good n.number (old k n e)) q ∙ sym (ap (λ b. cond b (of_parent up (array nodes)) (array_at nodes held q)) t.0)
    ]

  -- ---- a put into a holder's node
  module _ (key : Holder) (n : NodeId) (has : map.get held key ≡ Some n) (index : ℕ) (block : Block) (near : index < 2 ^ 32) (is_open : IsOpen nodes n.number) where
    pub puts : AreHeld (changed nodes n.number (put_node index block)) made held
    puts = rewritten nodes n.number (put_node index block) (λ x. refl) made held are (put-keeps index block near)

    pub puts_arrays : (q : Holder) → array_at (changed nodes n.number (put_node index block)) held q ≡ cond (is_holder q key) (map.insert (array_at nodes held q) index block) (array_at nodes held q)
    puts_arrays q = elim (cases holders_total exact_holders q key) [
      | inl t ↦ ap (array_of_node (changed nodes n.number (put_node index block))) (here t.1) ∙ array-put nodes made are.lines n.number is_open index near block
          ∙ ap (λ o. map.insert (array_of_node nodes o) index block) (sym (here t.1)) ∙ sym (ap (λ b. cond b (map.insert (array_at nodes held q) index block) (array_at nodes held q)) t.0)
      | inr t ↦ by (map.get held q) refl t.1 ∙ sym (ap (λ b. cond b (map.insert (array_at nodes held q) index block) (array_at nodes held q)) t.0)
    ]
      where
        here : q ≡ key → map.get held q ≡ Some n
        here e = ap (map.get held) e ∙ has

        by : (o : Option NodeId) → map.get held q ≡ o → (q ≡ key → ⊥) → array_of_node (changed nodes n.number (put_node index block)) o ≡ array_of_node nodes o
        by None e off = refl
        by (Some m) e off = others-put nodes made are.lines n.number is_open index near block m.number (λ same. off (are.apart q key n (e ∙ ap (λ (k : ℕ). Some (node k)) same) has))

  -- ---- a holder's node is closed
  module _ (key : Holder) (n : NodeId) (has : map.get held key ≡ Some n) where
    pub off_it : (q : Holder) (m : NodeId) → map.get held q ≡ Some m → (q ≡ key → ⊥) → m.number ≡ n.number → ⊥
    off_it q m e off same = off (are.apart q key n (e ∙ ap (λ (k : ℕ). Some (node k)) same) has)

    closed_lines : (h : Bool) → AreLines (changed nodes n.number (closed_node h)) made
    closed_lines h = lines-changed nodes made are.lines n.number (closed_node h) (close-keeps h)

    pub closed_arrays : (h : Bool) (q : Holder) → array_at (changed nodes n.number (closed_node h)) held q ≡ array_at nodes held q
    closed_arrays h q = arrays_keep nodes (changed nodes n.number (closed_node h)) held (λ k m e. arrays-same nodes n.number (closed_node h) (closed-same h) m.number) q

    shut_held : (m : ℕ) → m ≡ n.number → IsHeld (changed nodes n.number (closed_node true)) m
    shut_held m e = let there = are.there key n has in (closed_node true there.0, ap (map.get (changed nodes n.number (closed_node true))) e ∙ closed_here nodes n.number true there.0 there.1, refl)

    pub shut_frozen : (p : ℕ) → Some n.number ≡ Some p → IsFrozen (changed nodes n.number (closed_node true)) p
    shut_frozen p e = let there = are.there key n has in
        (closed_node true there.0, ap (map.get (changed nodes n.number (closed_node true))) (sym (some_same n.number p e)) ∙ closed_here nodes n.number true there.0 there.1, refl)

    -- and stays the holder's
    pub sealed : AreHeld (changed nodes n.number (closed_node true)) made held
    sealed = record {
      lines = closed_lines true;
      apart = are.apart;
      there = λ q m e. elim (same_or m.number n.number) [ inl s ↦ shut_held m.number s | inr off ↦ held_off nodes n.number true m.number off (are.there q m e) ];
      only = λ m h. elim (same_or m.number n.number) [
        | inl e ↦ (key, has ∙ ap (λ (k : ℕ). Some (node k)) (sym e))
        | inr off ↦ are.only m (held_before nodes n.number true m.number off h)
      ];
    }

    -- or is given up
    pub dropped : AreHeld (changed nodes n.number (closed_node false)) made (map.remove held key)
    dropped = record {
      lines = closed_lines false;
      apart = λ a b m e f. are.apart a b m (left holders_total exact_holders held key a m e).1 (left holders_total exact_holders held key b m f).1;
      there = λ q m e. let was = left holders_total exact_holders held key q m e in held_off nodes n.number false m.number (off_it q m was.1 was.0) (are.there q m was.1);
      only = λ m h. elim (same_or m.number n.number) [
        | inl e ↦ absurd (not_held nodes n.number m.number e (are.there key n has) h)
        | inr off ↦ let k = are.only m (held_before nodes n.number false m.number off h) in
            (k.0, stays holders_total exact_holders held key k.0 (λ same. off (ap (λ (i : NodeId). i.number) (some_same m n (sym k.1 ∙ ap (map.get held) same ∙ has)))) ∙ k.1)
      ];
    }

    pub dropped_arrays : (q : Holder) → array_at (changed nodes n.number (closed_node false)) (map.remove held key) q ≡ cond (is_holder q key) map.empty (array_at nodes held q)
    dropped_arrays q = elim (cases holders_total exact_holders q key) [
      | inl t ↦ ap (array_of_node (changed nodes n.number (closed_node false))) (gone q t.1) ∙ sym (ap (λ b. cond b map.empty (array_at nodes held q)) t.0)
      | inr t ↦ ap (array_of_node (changed nodes n.number (closed_node false))) (stays holders_total exact_holders held key q t.1) ∙ closed_arrays false q ∙ sym (ap (λ b. cond b map.empty (array_at nodes held q)) t.0)
    ]
      where
        gone : (q : Holder) → q ≡ key → map.get (map.remove held key) q ≡ None
        gone q e = elim (cases holders_total exact_holders q key) [
          | inl t ↦ map.get-remove holders_total held key q ∙ ap (λ b. cond b None (map.get held q)) t.0
          | inr t ↦ absurd (t.1 e)
        ]

    -- or goes to a holder that had none
    module _ (other : Holder) (free : map.get held other ≡ None) where
      moved_off : (q : Holder) (m : NodeId) → map.get (map.remove held key) q ≡ Some m → n ≡ m → ⊥
      moved_off q m e same = let was = left holders_total exact_holders held key q m e in off_it q m was.1 was.0 (sym (ap (λ (i : NodeId). i.number) same))

      pub handed : AreHeld (changed nodes n.number (closed_node true)) made (map.insert (map.remove held key) other n)
      handed = record {
        lines = closed_lines true;
        apart = λ a b m e f. elim (got holders_total exact_holders (map.remove held key) other n a m e) [
          | inl s ↦ elim (got holders_total exact_holders (map.remove held key) other n b m f) [
            | inl t ↦ s.1 ∙ sym t.1
            | inr t ↦ absurd (moved_off b m t.2 s.2)
          ]
          | inr s ↦ elim (got holders_total exact_holders (map.remove held key) other n b m f) [
            | inl t ↦ absurd (moved_off a m s.2 t.2)
            | inr t ↦ are.apart a b m (left holders_total exact_holders held key a m s.2).1 (left holders_total exact_holders held key b m t.2).1
          ]
        ];
        there = λ q m e. elim (got holders_total exact_holders (map.remove held key) other n q m e) [
          | inl s ↦ shut_held m.number (sym (ap (λ (i : NodeId). i.number) s.2))
          | inr s ↦ let was = left holders_total exact_holders held key q m s.2 in held_off nodes n.number true m.number (off_it q m was.1 was.0) (are.there q m was.1)
        ];
        only = λ m h. elim (same_or m.number n.number) [
          | inl e ↦ (other, at_key holders_total exact_holders (map.remove held key) other n other refl ∙ ap (λ (k : ℕ). Some (node k)) (sym e))
          | inr off ↦ let k = are.only m (held_before nodes n.number true m.number off h) in (k.0, kept k.0 m off k.1)
        ];
      }
        where
          kept : (k : Holder) (m : NodeId) → (m.number ≡ n.number → ⊥) → map.get held k ≡ Some m → map.get (map.insert (map.remove held key) other n) k ≡ Some m
          kept k m off e = elim (cases holders_total exact_holders k other) [
            | inl t ↦ none_some m (sym free ∙ ap (map.get held) (sym t.1) ∙ e)
            | inr t ↦ off_key holders_total exact_holders (map.remove held key) other n k t.0
                ∙ stays holders_total exact_holders held key k (λ same. off (ap (λ (i : NodeId). i.number) (some_same m n (sym e ∙ ap (map.get held) same ∙ has)))) ∙ e
          ]

      none_left : map.get (map.insert (map.remove held key) other n) key ≡ None
      none_left = elim (cases holders_total exact_holders key other) [
        | inl t ↦ none_some n (sym free ∙ ap (map.get held) (sym t.1) ∙ has)
        | inr t ↦ off_key holders_total exact_holders (map.remove held key) other n key t.0 ∙ map.get-remove holders_total held key key
            ∙ elim (cases holders_total exact_holders key key) [ inl s ↦ ap (λ b. cond b None (map.get held key)) s.0 | inr s ↦ absurd (s.1 refl) ]
      ]

      handed_arrays : (q : Holder) → array_at (changed nodes n.number (closed_node true)) (map.insert (map.remove held key) other n) q
          ≡ cond (is_holder q other) (array_at nodes held key) (cond (is_holder q key) map.empty (array_at nodes held q))
      handed_arrays q = elim (cases holders_total exact_holders q other) [
        | inl t ↦ ap (array_of_node (changed nodes n.number (closed_node true))) (at_key holders_total exact_holders (map.remove held key) other n q t.1)
            ∙ arrays-same nodes n.number (closed_node true) (closed-same true) n.number ∙ ap (array_of_node nodes) (sym has) ∙ sym (ap (λ b. cond b (array_at nodes held key) (cond (is_holder q key) map.empty (array_at nodes held q))) t.0)
        | inr t ↦ ap (array_of_node (changed nodes n.number (closed_node true))) (off_key holders_total exact_holders (map.remove held key) other n q t.0) ∙ rest (cases holders_total exact_holders q key)
            ∙ sym (ap (λ b. cond b (array_at nodes held key) (cond (is_holder q key) map.empty (array_at nodes held q))) t.0)
      ]
        where
          rest : ((is_holder q key ≡ true) × (q ≡ key)) ⊎ ((is_holder q key ≡ false) × (q ≡ key → ⊥)) → array_at (changed nodes n.number (closed_node true)) (map.remove held key) q ≡ cond (is_holder q key) map.empty (array_at nodes held q)
          rest (inl t) = ap (array_of_node (changed nodes n.number (closed_node true))) (map.get-remove holders_total held key q ∙ ap (λ b. cond b None (map.get held q)) t.0) ∙ sym (ap (λ b. cond b map.empty (array_at nodes held q)) t.0)
          rest (inr t) = ap (array_of_node (changed nodes n.number (closed_node true))) (stays holders_total exact_holders held key q t.1) ∙ closed_arrays true q ∙ sym (ap (λ b. cond b map.empty (array_at nodes held q)) t.0)

-- a holder's open node is frozen for another one, and the first gets a child of it
module _ (nodes : NodeMap) (made : ℕ) (held : HeldBy) (are : AreHeld nodes made held) (key : Holder) (n : NodeId) (has : map.get held key ≡ Some n) (is_open : IsOpen nodes n.number)
    (other : Holder) (free : map.get held other ≡ None) where
  abbrev shut : NodeMap
  shut = changed nodes n.number (closed_node true)

  abbrev after : NodeMap
  after = changed (map.insert nodes made (new_node (Some n.number))) n.number (closed_node true)

  abbrev first : HeldBy
  first = map.insert (map.remove held key) other n

  shut_are : AreHeld shut made first
  shut_are = handed nodes made held are key n has other free

  same_nodes : map.insert shut made (new_node (Some n.number)) ≡ after
  same_nodes = sym (frozen-nodes nodes made are.lines n.number is_open)

  good : (p : ℕ) → Some n.number ≡ Some p → IsFrozen shut p
  good = shut_frozen nodes made held are key n has

  pub forks : AreHeld after (made + 1) (map.insert first key (node made))
  forks = subst (λ (f : NodeMap). AreHeld f (made + 1) (map.insert first key (node made))) same_nodes (begins shut made first shut_are (Some n.number) good key (none_left nodes made held are key n has other free))

  pub forks_arrays : (q : Holder) → array_at after (map.insert first key (node made)) q ≡ cond (is_holder q other) (array_at nodes held key) (array_at nodes held q)
  forks_arrays q =
      ap (λ (f : NodeMap). array_at f (map.insert first key (node made)) q) (sym same_nodes)
      ∙ begins_arrays shut made first shut_are (Some n.number) good key (none_left nodes made held are key n has other free) q
      ∙ by (cases holders_total exact_holders q key) (cases holders_total exact_holders q other)
    where
      whole : array shut n.number ≡ array_at nodes held key
      whole = arrays-same nodes n.number (closed_node true) (closed-same true) n.number ∙ ap (array_of_node nodes) (sym has)

      by : ((is_holder q key ≡ true) × (q ≡ key)) ⊎ ((is_holder q key ≡ false) × (q ≡ key → ⊥)) → ((is_holder q other ≡ true) × (q ≡ other)) ⊎ ((is_holder q other ≡ false) × (q ≡ other → ⊥))
          → cond (is_holder q key) (array shut n.number) (array_at shut first q) ≡ cond (is_holder q other) (array_at nodes held key) (array_at nodes held q)
      by (inl s) (inl t) = none_some n (sym free ∙ ap (map.get held) (sym t.1 ∙ s.1) ∙ has)
      by (inl s) (inr t) = ap (λ b. cond b (array shut n.number) (array_at shut first q)) s.0 ∙ whole ∙ ap (array_at nodes held) (sym s.1) ∙ sym (ap (λ b. cond b (array_at nodes held key) (array_at nodes held q)) t.0)
      by (inr s) t = ap (λ b. cond b (array shut n.number) (array_at shut first q)) s.0 ∙ handed_arrays nodes made held are key n has other free q
          ∙ ap (λ b. cond (is_holder q other) (array_at nodes held key) (cond b map.empty (array_at nodes held q))) s.0

-- a holder whose node isn't open gets an open child of it
module _ (nodes : NodeMap) (made : ℕ) (held : HeldBy) (are : AreHeld nodes made held) (key : Holder) (n : NodeId) (has : map.get held key ≡ Some n) (frozen : IsFrozen nodes n.number) where
  abbrev with_child : NodeMap
  with_child = map.insert nodes made (new_node (Some n.number))

  abbrev last : NodeMap
  last = changed with_child n.number (closed_node false)

  parents : (p : ℕ) → Some n.number ≡ Some p → IsFrozen nodes p
  parents p e = subst (IsFrozen nodes) (some_same n.number p e) frozen

  child_lines : AreLines with_child (made + 1)
  child_lines = lines-new nodes made are.lines (Some n.number) parents

  made_off : made ≡ n.number → ⊥
  made_off e = old nodes made held are key n has (sym e)

  there_still : (m : ℕ) → IsHeld nodes m → IsHeld with_child m
  there_still m (x, is, o) = (x, insert-other nodes made (new_node (Some n.number)) m (unborn nodes made are.lines m x is) ∙ is, o)

  pub reopens : AreHeld last (made + 1) (map.insert held key (node made))
  reopens = record {
    lines = lines-changed with_child (made + 1) child_lines n.number (closed_node false) (close-keeps false);
    apart = λ a b m e f. elim (got holders_total exact_holders held key (node made) a m e) [
      | inl s ↦ elim (got holders_total exact_holders held key (node made) b m f) [
        | inl t ↦ s.1 ∙ sym t.1
        | inr t ↦ absurd (old nodes made held are b m t.2 (sym (ap (λ (i : NodeId). i.number) s.2)))
      ]
      | inr s ↦ elim (got holders_total exact_holders held key (node made) b m f) [
        | inl t ↦ absurd (old nodes made held are a m s.2 (sym (ap (λ (i : NodeId). i.number) t.2)))
        | inr t ↦ are.apart a b m s.2 t.2
      ]
    ];
    there = λ q m e. elim (got holders_total exact_holders held key (node made) q m e) [
      | inl s ↦ fresh m.number (ap (λ (i : NodeId). i.number) s.2)
      | inr s ↦ held_off with_child n.number false m.number (off_it nodes made held are key n has q m s.2 s.1) (there_still m.number (are.there q m s.2))
    ];
    only = λ m h. elim (same_or m.number n.number) [
      | inl e ↦ absurd (not_held with_child n.number m.number e (there_still n.number (are.there key n has)) h)
      | inr off ↦ elim (same_or m.number made) [
        | inl e ↦ (key, at_key holders_total exact_holders held key (node made) key refl ∙ ap (λ (k : ℕ). Some (node k)) (sym e))
        | inr new ↦ let x = held_before with_child n.number false m.number off h in
            let k = are.only m (x.0, sym (insert-other nodes made (new_node (Some n.number)) m.number new) ∙ x.1, x.2) in (k.0, kept k.0 m off k.1)
      ]
    ];
  }
    where
      fresh : (m : ℕ) → made ≡ m → IsHeld last m
      fresh m e = held_off with_child n.number false m (λ same. made_off (e ∙ same)) (new_node (Some n.number), ap (map.get with_child) (sym e) ∙ insert-here nodes made (new_node (Some n.number)), refl)

      kept : (k : Holder) (m : NodeId) → (m.number ≡ n.number → ⊥) → map.get held k ≡ Some m → map.get (map.insert held key (node made)) k ≡ Some m
      kept k m off e = elim (cases holders_total exact_holders k key) [
        | inl t ↦ absurd (off (ap (λ (i : NodeId). i.number) (some_same m n (sym e ∙ ap (map.get held) t.1 ∙ has))))
        | inr t ↦ off_key holders_total exact_holders held key (node made) k t.0 ∙ e
      ]

  pub reopens_open : IsOpen last made
  reopens_open = (new_node (Some n.number), changed-other with_child n.number (closed_node false) made made_off ∙ insert-here nodes made (new_node (Some n.number)), refl)

  pub reopens_arrays : (q : Holder) → array_at last (map.insert held key (node made)) q ≡ array_at nodes held q
  reopens_arrays q = elim (cases holders_total exact_holders q key) [
    | inl t ↦ ap (array_of_node last) (at_key holders_total exact_holders held key (node made) q t.1) ∙ arrays-same with_child n.number (closed_node false) (closed-same false) made
        ∙ array-new nodes made are.lines (Some n.number) parents ∙ ap (array_of_node nodes) (sym has) ∙ ap (array_at nodes held) (sym t.1)
    | inr t ↦ ap (array_of_node last) (off_key holders_total exact_holders held key (node made) q t.0) ∙ by (map.get held q) refl
  ]
    where
      by : (o : Option NodeId) → map.get held q ≡ o → array_of_node last o ≡ array_of_node nodes o
      by None e = refl
      by (Some m) e = arrays-same with_child n.number (closed_node false) (closed-same false) m.number ∙ others-new nodes made are.lines (Some n.number) parents m.number (old nodes made held are q m e)

-- room for a block leaves all as it was
pub ready_held : (nodes : NodeMap) (made : ℕ) (held : HeldBy) (n : ℕ) → AreHeld nodes made held → AreHeld (changed nodes n ready_node) made held
ready_held nodes made held n are = rewritten nodes n ready_node (λ x. refl) made held are ready-keeps

pub ready_arrays : (nodes : NodeMap) (held : HeldBy) (n : ℕ) (q : Holder) → array_at (changed nodes n ready_node) held q ≡ array_at nodes held q
ready_arrays nodes held n q = arrays_keep nodes (changed nodes n ready_node) held (λ k m e. arrays-same nodes n ready_node ready-same m.number) q

pub ready_open : (nodes : NodeMap) (n : ℕ) → IsOpen nodes n → IsOpen (changed nodes n ready_node) n
ready_open nodes n (x, is, o) = (ready_node x, changed-here nodes n ready_node ∙ ap (option_map ready_node) is, o)
