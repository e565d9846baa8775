-- Rows of nodes without some of their entries: their trees are the same, and so is each array whose blocks all stay.
use Rattle.std.proofs.Common.{◌≡◌, ℕ, Bool, true, false, not, ◌&&◌, ◌||◌, ◌==◌, cond, List, [], ◌∷◌, map, Option, None, Some, IsSome, is_some, refl, sym, ap, subst, ◌∙◌, arith}
use Rattle.std.proofs.lemmas.Bool.{and_parts, false≢true}
use Rattle.std.proofs.lemmas.Bool.Decides.{nat_tests}
use Rattle.std.specs.Prelude.{nat_lt}
use Rattle.std.specs.Option.{option_map, unwrap_or}
use Rattle.std.specs.Ordering.{nat_cmp, eq_by_cmp}
use Rattle.std.specs.Cmp.{nat_cmp_total}
use Rattle.std.specs.List.{AllByRecursion, cons_option, filter, filter_map, find, list_all}
use Rattle.std.specs.FinMap.{nat_cmp-IsAntisymmetric, get, insert, empty, get-empty, get-insert, same_map}
use Rattle.ebs_model.specs.declared.array.Block.{Block}
use Rattle.ebs_checkpoints.specs.declared.nodes.EntryRow.{EntryRow}
use Rattle.ebs_checkpoints.specs.declared.nodes.NodeRow.{NodeRow}
use Rattle.ebs_node_rules.specs.Nodes.{are_needed, has_parent, have_parents, is_among, is_closed, is_open, node_of, open_are_named, parents, stands}
use Rattle.ebs_node_rules.specs.inner.Nodes.{ascends, nodes_ascend}
use Rattle.ebs_node_rules.specs.Arrays.{Array, Arrays, array_in, arrays_of, with_entries, with_nodes}
use Rattle.ebs_node_rules.specs.inner.Arrays.{entries_ascend}
use Rattle.ebs_node_rules.specs.inner.Lookups.{AreChained, own_block}
use Rattle.ebs_node_rules.proofs.Keyed.{get-entries, own_or}
use Rattle.ebs_lawful.proofs.Maps.{none_some, some_is}

same-number : (a b : ℕ) → (a == b) ≡ true → a ≡ b
same-number a b e = grind (arith, nat_tests)

module _ (test : EntryRow → Bool) where
  abbrev pub kept : NodeRow → NodeRow
  kept row = record row { entries = filter test row.entries }

  abbrev pub all-kept : List NodeRow → List NodeRow
  all-kept rows = map kept rows

  -- ---- trees

  found-kept : (rows : List NodeRow) (q : ℕ) → node_of (all-kept rows) (Some q) ≡ option_map kept (node_of rows (Some q))
  found-kept [] q = refl
  found-kept (x ∷ rows) q = by (x.number == q) (found-kept rows q)
    where
      by : (b : Bool) → node_of (all-kept rows) (Some q) ≡ option_map kept (node_of rows (Some q)) → cond b (Some (kept x)) (node_of (all-kept rows) (Some q)) ≡ option_map kept (cond b (Some x) (node_of rows (Some q)))
      by true rest = refl
      by false rest = rest

  closed-same : (o : Option NodeRow) → is_closed (option_map kept o) ≡ is_closed o
  closed-same None = refl
  closed-same (Some x) = refl

  some-same : (o : Option NodeRow) → is_some (option_map kept o) ≡ is_some o
  some-same None = refl
  some-same (Some x) = refl

  stands-same : (rows : List NodeRow) (n : ℕ) (o : Option ℕ) → stands (all-kept rows) n o ≡ stands rows n o
  stands-same rows n None = refl
  stands-same rows n (Some p) = ap (λ (b : Bool). nat_lt p n && b) (ap is_closed (found-kept rows p) ∙ closed-same (node_of rows (Some p)))

  parents-in : (all rows : List NodeRow) → list_all (has_parent all) rows ≡ true → list_all (has_parent (all-kept all)) (all-kept rows) ≡ true
  parents-in all [] e = refl
  parents-in all (x ∷ rows) e =
      let parts = and_parts (has_parent all x) (list_all (has_parent all) rows) e in
      λ i. (stands-same all x.number x.parent ∙ parts.0) i && parents-in all rows parts.1 i

  numbers-above : (n : ℕ) (rows : List NodeRow) → list_all (λ (y : NodeRow). nat_lt n y.number) (all-kept rows) ≡ list_all (λ (y : NodeRow). nat_lt n y.number) rows
  numbers-above n [] = refl
  numbers-above n (x ∷ rows) = ap (λ (b : Bool). nat_lt n x.number && b) (numbers-above n rows)

  numbers-ascend : (rows : List NodeRow) → nodes_ascend (all-kept rows) ≡ nodes_ascend rows
  numbers-ascend [] = refl
  numbers-ascend (x ∷ rows) = λ i. numbers-above x.number rows i && numbers-ascend rows i

  parents-same : (rows : List NodeRow) → parents (all-kept rows) ≡ parents rows
  parents-same [] = refl
  parents-same (x ∷ rows) = ap (cons_option x.parent) (parents-same rows)

  named-same : (named : ℕ → Bool) (rows : List NodeRow) → open_are_named (all-kept rows) named ≡ open_are_named rows named
  named-same named [] = refl
  named-same named (x ∷ rows) = ap (λ (b : Bool). (not x.writable || named x.number) && b) (named-same named rows)

  needed-same : (named bears : ℕ → Bool) (rows : List NodeRow) → are_needed (all-kept rows) named bears ≡ are_needed rows named bears
  needed-same named bears [] = refl
  needed-same named bears (x ∷ rows) = ap (λ (b : Bool). (named x.number || bears x.number) && b) (needed-same named bears rows)

  pub needed-kept : (named : ℕ → Bool) (rows : List NodeRow) → are_needed rows named (is_among (parents rows)) ≡ true → are_needed (all-kept rows) named (is_among (parents (all-kept rows))) ≡ true
  needed-kept named rows e = ap (λ (ps : List ℕ). are_needed (all-kept rows) named (is_among ps)) (parents-same rows) ∙ needed-same named (is_among (parents rows)) rows ∙ e

  pub named-kept : (named : ℕ → Bool) (rows : List NodeRow) → open_are_named rows named ≡ true → open_are_named (all-kept rows) named ≡ true
  named-kept named rows e = named-same named rows ∙ e

  -- ---- entries

  filtered-all : (p : EntryRow → Bool) (es : List EntryRow) → list_all p es ≡ true → list_all p (filter test es) ≡ true
  filtered-all p [] e = refl
  filtered-all p (x ∷ es) e = let parts = and_parts (p x) (list_all p es) e in by (test x) parts.0 (filtered-all p es parts.1)
    where
      by : (b : Bool) → p x ≡ true → list_all p (filter test es) ≡ true → list_all p (cond b (x ∷ filter test es) (filter test es)) ≡ true
      by true head rest = λ i. head i && rest i
      by false head rest = rest

  filtered-up : (es : List EntryRow) → ascends (λ (e : EntryRow). e.index) es ≡ true → ascends (λ (e : EntryRow). e.index) (filter test es) ≡ true
  filtered-up [] up = refl
  filtered-up (x ∷ es) up =
      let parts = and_parts (list_all (λ (y : EntryRow). nat_lt x.index y.index) es) (ascends (λ (e : EntryRow). e.index) es) up in
      by (test x) (filtered-all (λ (y : EntryRow). nat_lt x.index y.index) es parts.0) (filtered-up es parts.1)
    where
      by : (b : Bool) → list_all (λ (y : EntryRow). nat_lt x.index y.index) (filter test es) ≡ true → ascends (λ (e : EntryRow). e.index) (filter test es) ≡ true → ascends (λ (e : EntryRow). e.index) (cond b (x ∷ filter test es) (filter test es)) ≡ true
      by true head rest = λ i. head i && rest i
      by false head rest = rest

  entries-up : (rows : List NodeRow) → entries_ascend rows ≡ true → entries_ascend (all-kept rows) ≡ true
  entries-up [] up = refl
  entries-up (x ∷ rows) up =
      let parts = and_parts (ascends (λ (e : EntryRow). e.index) x.entries) (entries_ascend rows) up in
      λ i. filtered-up x.entries parts.0 i && entries-up rows parts.1 i

  pub chained-kept : (rows : List NodeRow) → AreChained rows → AreChained (all-kept rows)
  chained-kept rows chained = record { ascend = numbers-ascend rows ∙ chained.ascend; entries = entries-up rows chained.entries; parents = parents-in rows rows chained.parents }

  pub found-in-kept : (rows : List NodeRow) (q : ℕ) (row : NodeRow) → node_of rows (Some q) ≡ Some row → node_of (all-kept rows) (Some q) ≡ Some (kept row)
  found-in-kept rows q row found = found-kept rows q ∙ ap (option_map kept) found

  pub listed-kept : (rows : List NodeRow) (q : ℕ) → IsSome (node_of rows (Some q)) → IsSome (node_of (all-kept rows) (Some q))
  listed-kept rows q there = ap is_some (found-kept rows q) ∙ some-same (node_of rows (Some q)) ∙ there

  -- ---- arrays

  -- a block that passes, at its index
  abbrev Stays : ℕ → Block → Type 0
  Stays i b = test (record { index = i; block = b }) ≡ true

  -- what is found stays where it passes, and nothing comes
  abbrev Follows : ℕ → Option Block → Option Block → Type 0
  Follows i None new = new ≡ None
  Follows i (Some b) new = Stays i b → new ≡ Some b

  abbrev AllFollow : Array → Array → Type 0
  AllFollow old new = (i : ℕ) → Follows i (get old i) (get new i)

  own-none : (es : List EntryRow) (i : ℕ) → own_block es i ≡ None → own_block (filter test es) i ≡ None
  own-none [] i e = refl
  own-none (x ∷ es) i e = by (x.index == i) refl e (λ h. own-none es i h)
    where
      by : (b : Bool) → (x.index == i) ≡ b → option_map (λ (y : EntryRow). y.block) (cond b (Some x) (find (λ (y : EntryRow). y.index == i) es)) ≡ None → (own_block es i ≡ None → own_block (filter test es) i ≡ None) → own_block (filter test (x ∷ es)) i ≡ None
      by true is h rest = none_some (sym h)
      by false is h rest = over (test x) (rest h)
        where
          over : (t : Bool) → own_block (filter test es) i ≡ None → own_block (cond t (x ∷ filter test es) (filter test es)) i ≡ None
          over true later = ap (λ (b : Bool). option_map (λ (y : EntryRow). y.block) (cond b (Some x) (find (λ (y : EntryRow). y.index == i) (filter test es)))) is ∙ later
          over false later = later

  own-some : (es : List EntryRow) (i : ℕ) (b : Block) → own_block es i ≡ Some b → Stays i b → own_block (filter test es) i ≡ Some b
  own-some [] i b e stays = none_some e
  own-some (x ∷ es) i b e stays = by (x.index == i) refl e (λ h. own-some es i b h stays)
    where
      by : (t : Bool) → (x.index == i) ≡ t → option_map (λ (y : EntryRow). y.block) (cond t (Some x) (find (λ (y : EntryRow). y.index == i) es)) ≡ Some b → (own_block es i ≡ Some b → own_block (filter test es) i ≡ Some b) → own_block (filter test (x ∷ es)) i ≡ Some b
      by true is h rest =
          let passes : test x ≡ true = (λ j. test (record { index = same-number x.index i is j; block = some_is x.block b h j })) ∙ stays in
          ap (λ (t : Bool). own_block (cond t (x ∷ filter test es) (filter test es)) i) passes
          ∙ ap (λ (t : Bool). option_map (λ (y : EntryRow). y.block) (cond t (Some x) (find (λ (y : EntryRow). y.index == i) (filter test es)))) is ∙ h
      by false is h rest = over (test x) (rest h)
        where
          over : (t : Bool) → own_block (filter test es) i ≡ Some b → own_block (cond t (x ∷ filter test es) (filter test es)) i ≡ Some b
          over true later = ap (λ (t : Bool). option_map (λ (y : EntryRow). y.block) (cond t (Some x) (find (λ (y : EntryRow). y.index == i) (filter test es)))) is ∙ later
          over false later = later

  entries-follow : (es : List EntryRow) (old new : Array) → ascends (λ (e : EntryRow). e.index) es ≡ true → AllFollow old new → AllFollow (with_entries old es) (with_entries new (filter test es))
  entries-follow es old new up follow i =
      subst (λ (p : Option Block × Option Block). Follows i p.0 p.1) (λ j. (sym (get-entries es old i up) j, sym (get-entries (filter test es) new i (filtered-up es up)) j)) (by (own_block es i) refl)
    where
      by : (o : Option Block) → own_block es i ≡ o → Follows i (own_or o (get old i)) (own_or (own_block (filter test es) i) (get new i))
      by None is = subst (λ (o : Option Block). Follows i (get old i) (own_or o (get new i))) (sym (own-none es i is)) (follow i)
      by (Some b) is = λ stays. ap (λ (o : Option Block). own_or o (get new i)) (own-some es i b is stays)

  -- arrays of the same nodes
  abbrev Beside : Option Array → Option Array → Type 0
  Beside None new = new ≡ None
  Beside (Some a) new = (b : Array) × (new ≡ Some b) × AllFollow a b

  abbrev AllBeside : Arrays → Arrays → Type 0
  AllBeside old new = (n : ℕ) → Beside (get old n) (get new n)

  none-follow : AllFollow empty empty
  none-follow i = subst (λ (o : Option Block). Follows i o (get {R = nat_cmp} empty i)) (sym (get-empty {X = Block} nat_cmp i)) (get-empty {X = Block} nat_cmp i)

  in-follow : (old new : Arrays) → AllBeside old new → (at : Option ℕ) → AllFollow (array_in old at) (array_in new at)
  in-follow old new beside None = none-follow
  in-follow old new beside (Some n) = by (get old n) (beside n)
    where
      by : (o : Option Array) → Beside o (get new n) → AllFollow (unwrap_or o empty) (unwrap_or (get new n) empty)
      by None none = subst (λ (x : Option Array). AllFollow empty (unwrap_or x empty)) (sym none) none-follow
      by (Some a) (b, is, follow) = subst (λ (x : Option Array). AllFollow a (unwrap_or x empty)) (sym is) follow

  insert-beside : (old new : Arrays) (k : ℕ) (a b : Array) → AllFollow a b → AllBeside old new → AllBeside (insert old k a) (insert new k b)
  insert-beside old new k a b follow beside n =
      subst (λ (p : Option Array × Option Array). Beside p.0 p.1) (λ j. (sym (get-insert nat_cmp_total old k a n) j, sym (get-insert nat_cmp_total new k b n) j)) (by (eq_by_cmp nat_cmp n k))
    where
      by : (t : Bool) → Beside (cond t (Some a) (get old n)) (cond t (Some b) (get new n))
      by true = (b, refl, follow)
      by false = beside n

  nodes-beside : (rows : List NodeRow) (old new : Arrays) → entries_ascend rows ≡ true → AllBeside old new → AllBeside (with_nodes old rows) (with_nodes new (all-kept rows))
  nodes-beside [] old new up beside = beside
  nodes-beside (x ∷ rows) old new up beside =
      let parts = and_parts (ascends (λ (e : EntryRow). e.index) x.entries) (entries_ascend rows) up in
      let a : Array = with_entries (array_in old x.parent) x.entries in
      let b : Array = with_entries (array_in new x.parent) (filter test x.entries) in
      nodes-beside rows (insert old x.number a) (insert new x.number b) parts.1
      (insert-beside old new x.number a b (entries-follow x.entries (array_in old x.parent) (array_in new x.parent) parts.0 (in-follow old new beside x.parent)) beside)

  none-beside : AllBeside empty empty
  none-beside n = subst (λ (o : Option Array). Beside o (get {R = nat_cmp} empty n)) (sym (get-empty {X = Array} nat_cmp n)) (get-empty {X = Array} nat_cmp n)

  follow-same : (a b : Array) → AllFollow a b → ((i : ℕ) (x : Block) → get a i ≡ Some x → Stays i x) → b ≡ a
  follow-same a b follow all = same_map nat_cmp_total nat_cmp-IsAntisymmetric b a (λ i. by i (get a i) refl (follow i))
    where
      by : (i : ℕ) (o : Option Block) → get a i ≡ o → Follows i o (get b i) → get b i ≡ get a i
      by i None is none = none ∙ sym is
      by i (Some x) is stays = stays (all i x is) ∙ sym is

  -- an array whose blocks all pass is as it was
  pub array-kept : (rows : List NodeRow) → entries_ascend rows ≡ true → (n : ℕ) (a : Array) → get (arrays_of rows) n ≡ Some a → ((i : ℕ) (x : Block) → get a i ≡ Some x → test (record { index = i; block = x }) ≡ true)
      → get (arrays_of (all-kept rows)) n ≡ Some a
  array-kept rows up n a is all = by (subst (λ (o : Option Array). Beside o (get (arrays_of (all-kept rows)) n)) is (nodes-beside rows empty empty up none-beside n))
    where
      by : Beside (Some a) (get (arrays_of (all-kept rows)) n) → get (arrays_of (all-kept rows)) n ≡ Some a
      by (b, there, follow) = there ∙ ap Some (follow-same a b follow all)

  -- ---- what holds of all entries still does, and each passes

  kept-entries : (P : EntryRow → Type 0) (es : List EntryRow) → AllByRecursion P es → AllByRecursion (λ (e : EntryRow). P e × (test e ≡ true)) (filter test es)
  kept-entries P [] all = tt
  kept-entries P (x ∷ es) all = by (test x) refl (kept-entries P es all.1)
    where
      by : (b : Bool) → test x ≡ b → AllByRecursion (λ (e : EntryRow). P e × (test e ≡ true)) (filter test es) → AllByRecursion (λ (e : EntryRow). P e × (test e ≡ true)) (cond b (x ∷ filter test es) (filter test es))
      by true is rest = ((all.0, is), rest)
      by false is rest = rest

  pub entries-kept : (P : EntryRow → Type 0) (rows : List NodeRow) → AllByRecursion (λ (row : NodeRow). AllByRecursion P row.entries) rows
      → AllByRecursion (λ (row : NodeRow). AllByRecursion (λ (e : EntryRow). P e × (test e ≡ true)) row.entries) (all-kept rows)
  entries-kept P [] all = tt
  entries-kept P (x ∷ rows) all = (kept-entries P x.entries all.0, entries-kept P rows all.1)
