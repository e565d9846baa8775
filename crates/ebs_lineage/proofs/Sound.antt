-- How a lineage stands after the calls of its parts.
use Rattle.std.proofs.Common.{arith, ◌≡◌, ◌⊎◌, inl, inr, ℕ, ◌+◌, ◌-◌, ◌<◌, ◌≤◌, ◌^◌, true, false, cond, is_some, Result, Ok, Err, OnErr, Option, Some, None, IsSome, IfSome, IfNone, max, refl, sym, ap, subst, ◌∙◌}
use Rattle.std.proofs.lemmas.Bool.{false≢true}
use Rattle.std.specs.Option.{option_map}
use Rattle.std.specs.FinMap as map
use Rattle.ebs_model.specs.declared.array.Block.{Block}
use Rattle.ebs_lineage.specs.declared.node.Node.{Node}
use Rattle.ebs_lineage.specs.declared.place.Place.{Place}
use Rattle.ebs_lineage.specs.declared.lineage.Lineage.TheInside.{Inside}
use Rattle.ebs_lineage.specs.Table.{NodeMap, Table, with_node, changed, closed_node, put_node, ready_node, without_block}
use Rattle.ebs_lineage.specs.Lines.{Lines, AreLines, IsHeld, IsFrozen, IsOpen, new_node, own, own_of, with_new, with_nodes}
use Rattle.ebs_lineage.specs.Kin.{Links, KinTable, AreKin, AreListed, places_of, relinked, with_kid, with_place, new_link}
use Rattle.ebs_lineage.specs.Linked.{AreLinked, IsRelisted, IsWantedOr}
use Rattle.ebs_lineage.specs.Standing.{lines_shown, IsSound}
use Rattle.ebs_lineage.specs.Live.{owner, owner_above, owner_in, IsLive}
use Rattle.ebs_lineage.specs.Hiders.{HiderTable}
use Rattle.ebs_lineage.specs.Hidden.{AreHiders, AreKnown, hidden_by, noted_by}
use Rattle.ebs_lineage.specs.Ways.{AreWays, IsNoted}
use Rattle.ebs_lineage.proofs.Changes.{Keeps, came, close-keeps, put-keeps, ready-keeps, without-keeps, lines-changed, lines-new, freeze-are, frozen-nodes, frozen-are, frozen-is, changed-here}
use Rattle.ebs_lineage.proofs.Waiting.{owner-stays}
use Rattle.ebs_lineage.proofs.Owners.{finds_same, own_same}
use Rattle.ebs_lineage.proofs.Onward.{parents-changed, held-changed, ways-changed, ways-placed, ways-relisted, root-ways, kid-ways}
use Rattle.ebs_lineage.proofs.Departing.{dropped-listed}
use Rattle.ebs_lineage.proofs.Hiding.{hiders-same, hiders-new, hiders-put}
use Rattle.ebs_lineage.proofs.Linking.{KeepsHold, kin_noted, same-places, linked-changed, root-linked, root-places, kid-linked, kid-places, frozen-linked, frozen-places, placed-linked, placed-place, placed-none}

some_same : {A : Type 0} (a b : A) → Some a ≡ Some b → a ≡ b
some_same a b e = cc

pub no_parent : {A : Type 0} (p : ℕ) → None ≡ Some p → A
no_parent p e = absurd (cc)

pub the_parent : (nodes : NodeMap) (n : ℕ) → IsFrozen nodes n → (p : ℕ) → Some n ≡ Some p → IsFrozen nodes p
the_parent nodes n frozen p e = subst (IsFrozen nodes) (some_same n p e) frozen

pub the_both : (nodes : NodeMap) (n : ℕ) → IsFrozen nodes n → IsHeld nodes n → (p : ℕ) → Some n ≡ Some p → IsFrozen nodes p × IsHeld nodes p
the_both nodes n frozen held p e = (subst (IsFrozen nodes) (some_same n p e) frozen, subst (IsHeld nodes) (some_same n p e) held)

-- there is room for links where there is room for nodes
pub room_for : (a : Inside) (l : Lines) → IsSound a → lines_shown a ≡ l → 1 ≤ l.table.spare → 1 ≤ a.kin.spare
room_for a l sound e h =
    let same : a.nodes.spare ≡ l.table.spare = ap (λ (k : Lines). k.table.spare) e in
    let room = sound.room in
    omega arith

-- a change of a node that leaves its blocks, and makes nobody hold it who didn't
pub record IsCalm (nodes : NodeMap) (n : ℕ) (f : Node → Node) : Type 0 where
  pub keeps : Keeps f
  pub blocks : (x : Node) → (f x).own.blocks ≡ x.own.blocks
  pub held : (x : Node) → map.get nodes n ≡ Some x → (f x).is_held ≡ true → x.is_held ≡ true

pub ready-calm : (nodes : NodeMap) (n : ℕ) → IsCalm nodes n ready_node
ready-calm nodes n = record { keeps = ready-keeps; blocks = λ x. refl; held = λ x is holds. holds }

pub ready-hold : (nodes : NodeMap) (n : ℕ) → KeepsHold nodes n ready_node
ready-hold nodes n = record { was = λ x is holds. holds; stays = λ x is holds. holds }

pub dropped-calm : (nodes : NodeMap) (n : ℕ) → IsCalm nodes n (closed_node false)
dropped-calm nodes n = record { keeps = close-keeps false; blocks = λ x. refl; held = λ x is holds. absurd (false≢true holds) }

pub sealed-calm : (nodes : NodeMap) (n : ℕ) → IsHeld nodes n → IsCalm nodes n (closed_node true)
sealed-calm nodes n held = record { keeps = close-keeps true; blocks = λ x. refl; held = λ x is holds. ap (λ (z : Node). z.is_held) (some_same x held.0 (sym is ∙ held.1)) ∙ held.2 }

pub open_held : (nodes : NodeMap) (made n : ℕ) → AreLines nodes made → IsOpen nodes n → IsHeld nodes n
open_held nodes made n are (x, is, opened) = (x, is, are.open_held n x is opened)

found_in : (f : Node → Node) → Keeps f → ((x : Node) → (f x).own.blocks ≡ x.own.blocks) → (o : Option Node) (m index : ℕ) (u : ℕ → Option ℕ) → owner_in (option_map f o) m index u ≡ owner_in o m index u
found_in f keeps blocks None m index u = refl
found_in f keeps blocks (Some x) m index u = λ i. cond (is_some (map.get (blocks x i) index)) (Some m) (owner_above (keeps.parent x i) u)

own_in : (f : Node → Node) → ((x : Node) → (f x).own.blocks ≡ x.own.blocks) → (o : Option Node) → own_of (option_map f o) ≡ own_of o
own_in f blocks None = refl
own_in f blocks (Some x) = blocks x

held_shut : (nodes : NodeMap) (n : ℕ) → IsOpen nodes n → IsHeld (changed nodes n (closed_node true)) n
held_shut nodes n (x, is, opened) = (closed_node true x, changed-here nodes n (closed_node true) ∙ ap (option_map (closed_node true)) is, refl)

module _ (a : Inside) (sound : IsSound a) where
  -- nodes as they were, and more room for links
  module _ (t : Table) (k : KinTable) (is : t ≡ a.nodes) (links : k.links ≡ a.kin.links) (spare : a.kin.spare ≤ k.spare) where
    pub roomy-sound : IsSound (record a { nodes = t; kin = k })
    roomy-sound = record {
      lines = subst (λ (u : Table). AreLines u.nodes a.made) (sym is) sound.lines;
      linked = subst (λ (x : Table × Links). AreLinked x.0.nodes a.made x.1) (sym (λ i. (is i, links i))) sound.linked;
      ways = subst (λ (x : Table × Links). AreWays x.0.nodes x.1) (sym (λ i. (is i, links i))) sound.ways;
      known = subst (λ (u : Table). AreKnown u.nodes a.hiders) (sym is) sound.known;
      room =
          let same : t.spare ≡ a.nodes.spare = ap (λ (u : Table). u.spare) is in
          let room = sound.room in
          omega arith;
    }

    pub roomy-shown : lines_shown (record a { nodes = t; kin = k }) ≡ lines_shown a
    roomy-shown = λ i. record { table = is i; made = a.made; places = places_of (links i) }

  -- one node is changed, and keeps its blocks
  module _ (n : ℕ) (f : Node → Node) (calm : IsCalm a.nodes.nodes n f) where
    pub known-changed : AreKnown (changed a.nodes.nodes n f) a.hiders
    known-changed whole = hiders-same a.nodes.nodes (changed a.nodes.nodes n f) a.hiders (parents-changed a.nodes.nodes n f calm.keeps) (held-changed a.nodes.nodes n f calm.held)
        (finds_same a.nodes.nodes n f (found_in f calm.keeps calm.blocks) (own_in f calm.blocks)) (own_same a.nodes.nodes n f (found_in f calm.keeps calm.blocks) (own_in f calm.blocks)) (sound.known whole)

    pub changed-sound : KeepsHold a.nodes.nodes n f → (t : Table) → t ≡ record a.nodes { nodes = changed a.nodes.nodes n f } → IsSound (record a { nodes = t })
    changed-sound hold t is = subst (λ (u : Table). IsSound (record a { nodes = u })) (sym is) (record {
      lines = lines-changed a.nodes.nodes a.made sound.lines n f calm.keeps;
      linked = linked-changed a.nodes.nodes a.made a.kin.links sound.lines n f calm.keeps hold sound.linked;
      ways = ways-changed a.nodes.nodes n f calm.keeps calm.held a.kin.links sound.ways;
      known = known-changed;
      room = sound.room;
    })

  -- nobody holds the node any more
  module _ (n : ℕ) (t : Table) (is : t ≡ record a.nodes { nodes = changed a.nodes.nodes n (closed_node false) }) where
    abbrev gone : NodeMap
    gone = changed a.nodes.nodes n (closed_node false)

    pub gone-lines : AreLines t.nodes a.made
    gone-lines = subst (λ (u : Table). AreLines u.nodes a.made) (sym is) (lines-changed a.nodes.nodes a.made sound.lines n (closed_node false) (close-keeps false))

    pub gone-listed : IsHeld a.nodes.nodes n → AreListed (IsWantedOr t.nodes n) a.kin.links
    gone-listed held = subst (λ (u : Table). AreListed (IsWantedOr u.nodes n) a.kin.links) (sym is)
        (dropped-listed a.nodes.nodes a.made a.kin.links sound.lines n (closed_node false) (close-keeps false) held (λ x holds. false≢true holds) sound.linked.kin)

    still_there : (m : ℕ) (o : Option Node) → map.get gone m ≡ o → IsSome o → IsSome (map.get a.kin.links m)
    still_there m None e some = absurd (false≢true some)
    still_there m (Some x) e some =
        let was = came a.nodes.nodes a.made sound.lines n (closed_node false) (close-keeps false) m x e in
        sound.linked.there m was.0 was.1

    pub gone-there : (m : ℕ) → IsSome (map.get t.nodes m) → IsSome (map.get a.kin.links m)
    gone-there = subst (λ (u : Table). (m : ℕ) → IsSome (map.get u.nodes m) → IsSome (map.get a.kin.links m)) (sym is) (λ m some. still_there m (map.get gone m) refl some)

    module _ (k : KinTable) (kin : AreKin t.nodes k.links) (kept : IsRelisted a.kin.links k.links) (spare : a.kin.spare ≤ k.spare) where
      was_there : (m : ℕ) (x : Node) → map.get gone m ≡ Some x → IsSome (map.get k.links m)
      was_there m x e =
          let was = came a.nodes.nodes a.made sound.lines n (closed_node false) (close-keeps false) m x e in
          kept.there m ∙ sound.linked.there m was.0 was.1

      pub dropped-sound : IsSound (record a { nodes = t; kin = k })
      dropped-sound = record {
        lines = gone-lines;
        linked = record {
          there = subst (λ (u : Table). (m : ℕ) (x : Node) → map.get u.nodes m ≡ Some x → IsSome (map.get k.links m)) (sym is) was_there;
          to_come = λ m low. kept.places m ∙ sound.linked.to_come m low;
          kin = kin;
        };
        ways = ways-relisted t.nodes a.kin.links k.links kept
            (subst (λ (u : Table). AreWays u.nodes a.kin.links) (sym is) (ways-changed a.nodes.nodes n (closed_node false) (close-keeps false) (dropped-calm a.nodes.nodes n).held a.kin.links sound.ways));
        known = subst (λ (u : Table). AreKnown u.nodes a.hiders) (sym is) (known-changed n (closed_node false) (dropped-calm a.nodes.nodes n));
        room =
            let same : t.spare ≡ a.nodes.spare = ap (λ (u : Table). u.spare) is in
            let room = sound.room in
            omega arith;
      }

      pub dropped-shown : lines_shown (record a { nodes = t; kin = k }) ≡ with_nodes (lines_shown a) gone
      dropped-shown = let places = same-places k.links a.kin.links kept.places in λ i. record { table = is i; made = a.made; places = places i }

  pub same-sound : (t : Table) → t ≡ a.nodes → IsSound (record a { nodes = t })
  same-sound t is = subst (λ (u : Table). IsSound (record a { nodes = u })) (sym is) sound

  -- a new node, and then its links
  module _ (t : Table) (j k : KinTable) (links : j.links ≡ a.kin.links) (more : a.kin.spare ≤ j.spare) (less : j.spare ≤ k.spare + 1) where
    room_left : t.spare ≡ a.nodes.spare - 1 → t.spare ≤ k.spare
    room_left e = let room = sound.room in omega arith

    module _ (is : t ≡ with_node a.nodes a.made (new_node None)) (add : k.links ≡ map.insert j.links a.made (new_link None)) where
      root_links : k.links ≡ map.insert a.kin.links a.made (new_link None)
      root_links = add ∙ ap (λ (l : Links). map.insert l a.made (new_link None)) links

      pub root-sound : IsSound (record a { nodes = t; kin = k; made = a.made + 1 })
      root-sound = record {
        lines = subst (λ (u : Table). AreLines u.nodes (a.made + 1)) (sym is) (lines-new a.nodes.nodes a.made sound.lines None (λ p e. no_parent p e));
        linked = subst (λ (x : Table × Links). AreLinked x.0.nodes (a.made + 1) x.1) (sym (λ i. (is i, root_links i))) (root-linked a.nodes.nodes a.made a.kin.links sound.lines sound.linked);
        ways = subst (λ (x : Table × Links). AreWays x.0.nodes x.1) (sym (λ i. (is i, root_links i))) (root-ways a.nodes.nodes a.made sound.lines a.kin.links sound.ways);
        known = subst (λ (u : Table). AreKnown u.nodes a.hiders) (sym is) (λ whole. hiders-new a.nodes.nodes a.made sound.lines None (λ p e. no_parent p e) a.hiders (sound.known whole));
        room = room_left (ap (λ (u : Table). u.spare) is);
      }

      pub root-shown : lines_shown (record a { nodes = t; kin = k; made = a.made + 1 }) ≡ with_new (lines_shown a) None
      root-shown =
          let places = ap places_of root_links ∙ root-places a.nodes.nodes a.made a.kin.links sound.lines sound.linked in
          λ i. record { table = is i; made = a.made + 1; places = places i }

    module _ (p : ℕ) (add : k.links ≡ with_kid j.links a.made p) where
      kid_links : k.links ≡ with_kid a.kin.links a.made p
      kid_links = add ∙ ap (λ (l : Links). with_kid l a.made p) links

      module _ (frozen : IsFrozen a.nodes.nodes p) (held : IsHeld a.nodes.nodes p) (is : t ≡ with_node a.nodes a.made (new_node (Some p))) where
        pub kid-sound : IsSound (record a { nodes = t; kin = k; made = a.made + 1 })
        kid-sound = record {
          lines = subst (λ (u : Table). AreLines u.nodes (a.made + 1)) (sym is) (lines-new a.nodes.nodes a.made sound.lines (Some p) (the_parent a.nodes.nodes p frozen));
          linked = subst (λ (x : Table × Links). AreLinked x.0.nodes (a.made + 1) x.1) (sym (λ i. (is i, kid_links i))) (kid-linked a.nodes.nodes a.made a.kin.links sound.lines sound.linked p frozen held);
          ways = subst (λ (x : Table × Links). AreWays x.0.nodes x.1) (sym (λ i. (is i, kid_links i))) (kid-ways a.nodes.nodes a.made sound.lines a.kin.links sound.ways p frozen held);
          known = subst (λ (u : Table). AreKnown u.nodes a.hiders) (sym is) (λ whole. hiders-new a.nodes.nodes a.made sound.lines (Some p) (the_both a.nodes.nodes p frozen held) a.hiders (sound.known whole));
          room = room_left (ap (λ (u : Table). u.spare) is);
        }

        pub kid-shown : lines_shown (record a { nodes = t; kin = k; made = a.made + 1 }) ≡ with_new (lines_shown a) (Some p)
        kid-shown =
            let places = ap places_of kid_links ∙ kid-places a.nodes.nodes a.made a.kin.links sound.lines sound.linked p frozen held in
            λ i. record { table = is i; made = a.made + 1; places = places i }

      module _ (is_open : IsOpen a.nodes.nodes p) (is : t ≡ record a.nodes { nodes = changed (map.insert a.nodes.nodes a.made (new_node (Some p))) p (closed_node true); spare = a.nodes.spare - 1 }) where
        abbrev shut : NodeMap
        shut = changed a.nodes.nodes p (closed_node true)

        shut_are : AreLines shut a.made
        shut_are = frozen-are a.nodes.nodes a.made sound.lines p is_open

        shut_frozen : IsFrozen shut p
        shut_frozen = frozen-is a.nodes.nodes a.made sound.lines p is_open p refl

        shut_held : IsHeld shut p
        shut_held = held_shut a.nodes.nodes p is_open

        calm : IsCalm a.nodes.nodes p (closed_node true)
        calm = sealed-calm a.nodes.nodes p (open_held a.nodes.nodes a.made p sound.lines is_open)

        forked : t ≡ record { nodes = map.insert shut a.made (new_node (Some p)); spare = a.nodes.spare - 1 }
        forked = is ∙ ap (λ (m : NodeMap). record { nodes = m; spare = a.nodes.spare - 1 }) (frozen-nodes a.nodes.nodes a.made sound.lines p is_open)

        shut_ways : AreWays (map.insert shut a.made (new_node (Some p))) (with_kid a.kin.links a.made p)
        shut_ways = kid-ways shut a.made shut_are a.kin.links (ways-changed a.nodes.nodes p (closed_node true) calm.keeps calm.held a.kin.links sound.ways) p shut_frozen shut_held

        shut_known : AreKnown (map.insert shut a.made (new_node (Some p))) a.hiders
        shut_known whole = hiders-new shut a.made shut_are (Some p) (the_both shut p shut_frozen shut_held) a.hiders (known-changed p (closed_node true) calm whole)

        pub fork-sound : IsSound (record a { nodes = t; kin = k; made = a.made + 1 })
        fork-sound = record {
          lines = subst (λ (u : Table). AreLines u.nodes (a.made + 1)) (sym is) (freeze-are a.nodes.nodes a.made sound.lines p is_open);
          linked = subst (λ (x : Table × Links). AreLinked x.0.nodes (a.made + 1) x.1) (sym (λ i. (is i, kid_links i))) (frozen-linked a.nodes.nodes a.made a.kin.links sound.lines sound.linked p is_open);
          ways = subst (λ (x : Table × Links). AreWays x.0.nodes x.1) (sym (λ i. (forked i, kid_links i))) shut_ways;
          known = subst (λ (u : Table). AreKnown u.nodes a.hiders) (sym forked) shut_known;
          room = room_left (ap (λ (u : Table). u.spare) is);
        }

        pub fork-shown : lines_shown (record a { nodes = t; kin = k; made = a.made + 1 }) ≡ with_nodes (with_new (lines_shown a) (Some p)) (changed (with_new (lines_shown a) (Some p)).table.nodes p (closed_node true))
        fork-shown =
            let places = ap places_of kid_links ∙ frozen-places a.nodes.nodes a.made a.kin.links sound.lines sound.linked p is_open in
            λ i. record { table = is i; made = a.made + 1; places = places i }

  -- a place is written
  module _ (k : KinTable) (n : ℕ) (p : Option Place) (links : k.links ≡ relinked a.kin.links n (with_place p)) (spare : a.kin.spare ≤ k.spare) (there : IsSome (map.get a.nodes.nodes n)) where
    node_there : (o : Option Node) → map.get a.nodes.nodes n ≡ o → IsSome o → (x : Node) × (map.get a.nodes.nodes n ≡ Some x)
    node_there None e h = absurd (false≢true h)
    node_there (Some x) e h = (x, e)

    the_node : (x : Node) × (map.get a.nodes.nodes n ≡ Some x)
    the_node = node_there (map.get a.nodes.nodes n) refl there

    pub place-sound : IsSound (record a { kin = k })
    place-sound = record {
      lines = sound.lines;
      linked = subst (λ (l : Links). AreLinked a.nodes.nodes a.made l) (sym links)
          (placed-linked a.nodes.nodes a.made a.kin.links sound.linked n the_node.0 the_node.1 (sound.lines.numbers n the_node.0 the_node.1) p);
      ways = subst (λ (l : Links). AreWays a.nodes.nodes l) (sym links) (ways-placed a.nodes.nodes a.kin.links sound.ways n p);
      known = sound.known;
      room = let room = sound.room in omega arith;
    }

    pub place-shown : (v : Place) → p ≡ Some v → lines_shown (record a { kin = k }) ≡ record (lines_shown a) { places = map.insert (places_of a.kin.links) n v }
    place-shown v e =
        let places = ap places_of links ∙ placed-place a.nodes.nodes a.made a.kin.links sound.linked n the_node.0 the_node.1 (sound.lines.numbers n the_node.0 the_node.1) p v e in
        λ i. record { table = a.nodes; made = a.made; places = places i }

    pub none-shown : p ≡ None → lines_shown (record a { kin = k }) ≡ record (lines_shown a) { places = map.remove (places_of a.kin.links) n }
    none-shown e =
        let places = ap places_of links ∙ placed-none a.nodes.nodes a.made a.kin.links sound.linked n the_node.0 the_node.1 (sound.lines.numbers n the_node.0 the_node.1) p e in
        λ i. record { table = a.nodes; made = a.made; places = places i }

-- a block is put, and noted where it hides another one
module _ (a : Inside) (sound : IsSound a) (n i : ℕ) (b : Block) (opened : IsOpen a.nodes.nodes n) (near : i < 2 ^ 32) where
  whole_still : (h : HiderTable) (o : Option ℕ) → (noted_by h o i n).is_whole ≡ h.is_whole
  whole_still h None = refl
  whole_still h (Some m) = refl

  put_known : (h : HiderTable) → (h.is_whole ≡ true → h ≡ noted_by a.hiders (hidden_by a.nodes.nodes n i) i n) → AreKnown (changed a.nodes.nodes n (put_node i b)) h
  put_known h noted whole =
      let was : a.hiders.is_whole ≡ true = sym (whole_still a.hiders (hidden_by a.nodes.nodes n i)) ∙ ap (λ (k : HiderTable). k.is_whole) (sym (noted whole)) ∙ whole in
      subst (λ (k : HiderTable). AreHiders (changed a.nodes.nodes n (put_node i b)) k) (sym (noted whole)) (hiders-put a.nodes.nodes a.made sound.lines n i b opened near a.hiders (sound.known was))

  pub put-sound : (t : Table) → t ≡ record a.nodes { nodes = changed a.nodes.nodes n (put_node i b) } → (h : HiderTable) → (h.is_whole ≡ true → h ≡ noted_by a.hiders (hidden_by a.nodes.nodes n i) i n) → IsSound (record a { nodes = t; hiders = h })
  put-sound t is h noted = subst (λ (u : Table). IsSound (record a { nodes = u; hiders = h })) (sym is) (record {
    lines = lines-changed a.nodes.nodes a.made sound.lines n (put_node i b) (put-keeps i b near);
    linked = linked-changed a.nodes.nodes a.made a.kin.links sound.lines n (put_node i b) (put-keeps i b near) (record { was = λ x is holds. holds; stays = λ x is holds. holds }) sound.linked;
    ways = ways-changed a.nodes.nodes n (put_node i b) (put-keeps i b near) (λ x is holds. holds) a.kin.links sound.ways;
    known = put_known h noted;
    room = sound.room;
  })

-- a block is taken away, or all is as before
module _ (old new : Table) (n i : ℕ) where
  abbrev pub Taken : Option Block → Type 0
  Taken r = IfSome r (λ b. (map.get (own old.nodes n) i ≡ Some b) × (new ≡ record old { nodes = changed old.nodes n (without_block i) }))

  abbrev pub Stays : Option Block → Type 0
  Stays r = IfNone r ((new ≡ old) × ((map.get (own old.nodes n) i ≡ None) ⊎ IsLive old.nodes n i))

  taken_or_same : (r : Option Block) → Taken r → Stays r → (new ≡ record old { nodes = changed old.nodes n (without_block i) }) ⊎ (new ≡ old)
  taken_or_same None taken stays = inr stays.0
  taken_or_same (Some b) taken stays = inl taken.1

  pub owners_stay : (r : Option Block) → Taken r → Stays r → (IsSome r → IsLive old.nodes n i → ⊥) → (h j : ℕ) → IsHeld old.nodes h → owner new.nodes j h ≡ owner old.nodes j h
  owners_stay None taken stays dead h j held = ap (λ (t : Table). owner t.nodes j h) stays.0
  owners_stay (Some b) taken stays dead h j held = ap (λ (t : Table). owner t.nodes j h) taken.1 ∙ owner-stays old.nodes n i j (dead refl) h held

  module _ (a : Inside) (is : old ≡ a.nodes) (r : Option Block) (taken : Taken r) (stays : Stays r) (k : KinTable) (noted : IsNoted a.kin.links k.links) (h : HiderTable) where
    abbrev now : Inside
    now = record a { nodes = new; kin = k; hiders = h }

    places_stay : places_of k.links ≡ places_of a.kin.links
    places_stay = same-places k.links a.kin.links noted.places

    pub taken_shown : IfSome r (λ b. (map.get (own a.nodes.nodes n) i ≡ Some b) × (lines_shown now ≡ with_nodes (lines_shown a) (changed a.nodes.nodes n (without_block i))))
    taken_shown = by r taken
      where
        by : (o : Option Block) → Taken o → IfSome o (λ b. (map.get (own a.nodes.nodes n) i ≡ Some b) × (lines_shown now ≡ with_nodes (lines_shown a) (changed a.nodes.nodes n (without_block i))))
        by None t = tt
        by (Some b) t =
            let same = t.1 ∙ ap (λ (u : Table). record u { nodes = changed u.nodes n (without_block i) }) is in
            (ap (λ (u : Table). map.get (own u.nodes n) i) (sym is) ∙ t.0, λ j. record { table = same j; made = a.made; places = places_stay j })

    pub stays_shown : IfNone r ((lines_shown now ≡ lines_shown a) × ((map.get (own a.nodes.nodes n) i ≡ None) ⊎ IsLive a.nodes.nodes n i))
    stays_shown = by r stays
      where
        by : (o : Option Block) → Stays o → IfNone o ((lines_shown now ≡ lines_shown a) × ((map.get (own a.nodes.nodes n) i ≡ None) ⊎ IsLive a.nodes.nodes n i))
        by None s =
            let same = s.0 ∙ is in
            (λ j. record { table = same j; made = a.made; places = places_stay j }, subst (λ (u : Table). (map.get (own u.nodes n) i ≡ None) ⊎ IsLive u.nodes n i) is s.1)
        by (Some b) s = tt

    module _ (sound : IsSound a) (ways : AreWays new.nodes k.links) (known : AreKnown new.nodes h) (spare : a.kin.spare ≤ k.spare) where
      links_noted : AreLinked a.nodes.nodes a.made k.links
      links_noted = record {
        there = λ m x e. noted.there m ∙ sound.linked.there m x e;
        to_come = λ m low. noted.places m ∙ sound.linked.to_come m low;
        kin = kin_noted a.nodes.nodes a.kin.links k.links noted sound.linked.kin;
      }

      either : (new ≡ record a.nodes { nodes = changed a.nodes.nodes n (without_block i) }) ⊎ (new ≡ a.nodes)
      either = elim (taken_or_same r taken stays) [
        | inl e ↦ inl (e ∙ ap (λ (u : Table). record u { nodes = changed u.nodes n (without_block i) }) is)
        | inr e ↦ inr (e ∙ is)
      ]

      room_by : new.spare ≡ a.nodes.spare → new.spare ≤ k.spare
      room_by e = let room = sound.room in omega arith

      pub taken-sound : IsSound now
      taken-sound = record {
        lines = elim either [
          | inl e ↦ subst (λ (u : Table). AreLines u.nodes a.made) (sym e) (lines-changed a.nodes.nodes a.made sound.lines n (without_block i) (without-keeps i))
          | inr e ↦ subst (λ (u : Table). AreLines u.nodes a.made) (sym e) sound.lines
        ];
        linked = elim either [
          | inl e ↦ subst (λ (u : Table). AreLinked u.nodes a.made k.links) (sym e) (linked-changed a.nodes.nodes a.made k.links sound.lines n (without_block i) (without-keeps i) (record { was = λ x is holds. holds; stays = λ x is holds. holds }) links_noted)
          | inr e ↦ subst (λ (u : Table). AreLinked u.nodes a.made k.links) (sym e) links_noted
        ];
        ways = ways;
        known = known;
        room = elim either [ inl e ↦ room_by (ap (λ (u : Table). u.spare) e) | inr e ↦ room_by (ap (λ (u : Table). u.spare) e) ];
      }

-- room for more nodes
pub respared-sound : (a : Inside) → IsSound a → (t : Table) (k : KinTable) (s : ℕ) → t ≡ record a.nodes { spare = s } → k.links ≡ a.kin.links → s ≤ k.spare → IsSound (record a { nodes = t; kin = k })
respared-sound a sound t k s is links room = record {
  lines = subst (λ (u : Table). AreLines u.nodes a.made) (sym is) sound.lines;
  linked = subst (λ (x : Table × Links). AreLinked x.0.nodes a.made x.1) (sym (λ i. (is i, links i))) sound.linked;
  ways = subst (λ (x : Table × Links). AreWays x.0.nodes x.1) (sym (λ i. (is i, links i))) sound.ways;
  known = subst (λ (u : Table). AreKnown u.nodes a.hiders) (sym is) sound.known;
  room = let same : t.spare ≡ s = ap (λ (u : Table). u.spare) is in omega arith;
}

pub max_within : (a b c : ℕ) → a ≤ c → b ≤ c → max a b ≤ c
max_within a b c h k = omega arith

-- what holds anyway
pub on_failure : {A E : Type 0} (r : Result A E) {P : Type 0} → P → OnErr r P
on_failure (Ok x) p = tt
on_failure (Err e) p = p
