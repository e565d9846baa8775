-- The nodes that points name: each is a holder's, and no two name one.
use Rattle.std.proofs.Common.{◌≡◌, ℕ, zero, Bool, true, false, not, ◌&&◌, ◌||◌, ◌==◌, cond, List, [], ◌∷◌, ◌++◌, map, Option, None, Some, IsSome, Less, refl, sym, ap, subst, ◌∙◌, arith}
use Rattle.std.proofs.lemmas.Bool.{false≢true}
use Rattle.std.proofs.lemmas.Bool.Decides.{nat_tests}
use Rattle.std.proofs.lemmas.Cmp.{tied_itself}
use Rattle.std.specs.Option.{option_map, unwrap_or}
use Rattle.std.specs.List.{AllByRecursion, cons_option, filter_map}
use Rattle.std.specs.List.Sorted.{IsStrictlySortedBy}
use Rattle.std.specs.Map.{keys_of}
use Rattle.std.specs.FinMap.{FinMap, get}
use Rattle.ebs_model.specs.declared.keys.SnapKey.{SnapKey}
use Rattle.ebs_model.specs.declared.keys.VolKey.{VolKey}
use Rattle.ebs_model.specs.declared.rows.SnapRow.{SnapRow}
use Rattle.ebs_model.specs.declared.rows.RowStatus.{RowStatus}
use Rattle.ebs_model.specs.declared.rows.RowStatus.TheVariants.{Pending, Completed, Failed}
use Rattle.ebs_model.specs.Keys.{snap_cmp, vol_cmp}
use Rattle.ebs_model.specs.Time.{is_failed, status_at}
use Rattle.ebs_model.specs.inner.Orders.{snaps_total, vols_total}
use Rattle.ebs_lineage.specs.declared.node.Node.{Node}
use Rattle.ebs_lineage.specs.declared.node_id.NodeId.{NodeId}
use Rattle.ebs_lineage.specs.Table.{NodeMap}
use Rattle.ebs_lineage.specs.Lines.{IsFrozen, IsOpen}
use Rattle.ebs_checkpoints.specs.declared.owned.VolPoint.{VolPoint}
use Rattle.ebs_checkpoints.specs.declared.snapshots.SnapPoint.{SnapPoint}
use Rattle.ebs_node_rules.specs.Nodes.{are_distinct, is_among, names}
use Rattle.ebs_node_rules.specs.States.{status_of}
use Rattle.ebs_recovery.specs.Bases.{row_of}
use Rattle.ebs_holds.specs.declared.holder.Holder.{Holder}
use Rattle.ebs_holds.specs.Holders.{of_snap, of_vol}
use Rattle.ebs_holds.specs.Holds.{AreHeld, HasClosed, HasOpen, Holding, held_in, nodes_in}
use Rattle.ebs_lawful.proofs.Maps.{none_some, some_is}
use Rattle.ebs_lawful_points.proofs.Parts.{weaker}
use Rattle.ebs_node_rows.specs.Marks.{IsIn, IsWanted, Set}
use Rattle.ebs_pointed.specs.Nodes.{number_in, number_or}
use Rattle.ebs_pointed.specs.Snapshots.{node_at}
use Rattle.ebs_kept.specs.inner.Nodes.{HasNodeBy}
use Rattle.ebs_point.specs.Nodes.{AreThere}

same_number : (a b : ℕ) → (a == b) ≡ true → a ≡ b
same_number a b e = grind (arith, nat_tests)

itself : (n : ℕ) → (n == n) ≡ true
itself n = grind (arith, nat_tests)

-- ---- the node that a point names

-- an open node of its holder while its upload goes on, a closed one once it is completed, and none once it has failed
abbrev pub IsNodeBy : RowStatus → Holding → SnapPoint → Type 0
IsNodeBy Pending h p = (n : NodeId) × (get (held_in h) (of_snap p.key) ≡ Some n) × (p.node ≡ Some n.number) × IsOpen (nodes_in h) n.number
IsNodeBy Completed h p = (n : NodeId) × (get (held_in h) (of_snap p.key) ≡ Some n) × (p.node ≡ Some n.number) × IsFrozen (nodes_in h) n.number
IsNodeBy Failed h p = p.node ≡ None

abbrev pub IsNode : Holding → ℕ → SnapPoint → Type 0
IsNode h now p = IsNodeBy (status_of p now) h p

module _ (h : Holding) (now : ℕ) (p : SnapPoint) (node : p.node ≡ node_at h now (row_of p)) where
  named-by : (status : RowStatus) → status_of p now ≡ status → p.node ≡ cond (is_failed status) None (number_in h (of_snap p.key))
  named-by status is = node ∙ ap (λ (s : RowStatus). cond (is_failed s) None (number_in h (of_snap p.key))) is

  number-is : (n : NodeId) → get (held_in h) (of_snap p.key) ≡ Some n → number_in h (of_snap p.key) ≡ Some n.number
  number-is n has = ap (option_map (λ (x : NodeId). x.number)) has

  node-by : (status : RowStatus) → status_of p now ≡ status → HasNodeBy status h (of_snap p.key) → IsNodeBy status h p
  node-by Pending is (n, has, opened) = (n, has, named-by Pending is ∙ number-is n has, opened)
  node-by Completed is (n, has, closed) = (n, has, named-by Completed is ∙ number-is n has, closed)
  node-by Failed is has = named-by Failed is

  pub node-is : HasNodeBy (status_of p now) h (of_snap p.key) → IsNode h now p
  node-is has = node-by (status_of p now) refl has

-- a volume's node is open
abbrev pub IsVolNode : Holding → VolPoint → Type 0
IsVolNode h v = (n : NodeId) × (get (held_in h) (of_vol v.row.key) ≡ Some n) × (v.node ≡ n.number) × IsOpen (nodes_in h) n.number

pub vol-node-is : (h : Holding) (v : VolPoint) → v.node ≡ number_or h (of_vol v.row.key) → HasOpen h (of_vol v.row.key) → IsVolNode h v
vol-node-is h v node (n, has, opened) =
    (n, has, node ∙ ap (λ (o : Option NodeId). unwrap_or (option_map (λ (x : NodeId). x.number) o) h.lines.made) has, opened)

-- ---- whose each number is

-- a holder of such a number
pub record IsHolders (h : Holding) (number : ℕ) (q : Holder) : Type 0 where
  pub node : NodeId
  pub has : get (held_in h) q ≡ Some node
  pub is : node.number ≡ number

is-there : {X : Type 0} (o : Option X) (x : X) → o ≡ Some x → IsSome o
is-there o x e = subst IsSome (sym e) refl

-- the number is that of a node that is there
abbrev IsThere : Holding → ℕ → Type 0
IsThere h number = IsSome (get (nodes_in h) number)

opened-there : (h : Holding) (n number : ℕ) → number ≡ n → IsOpen (nodes_in h) n → IsThere h number
opened-there h n number is (x, here, opened) = subst (IsThere h) (sym is) (is-there (get (nodes_in h) n) x here)

closed-there : (h : Holding) (n number : ℕ) → number ≡ n → IsFrozen (nodes_in h) n → IsThere h number
closed-there h n number is (x, here, closed) = subst (IsThere h) (sym is) (is-there (get (nodes_in h) n) x here)

-- what a point names
record Names (h : Holding) (p : SnapPoint) (number : ℕ) : Type 0 where
  holder : IsHolders h number (of_snap p.key)
  there : IsThere h number

names-by : (h : Holding) (p : SnapPoint) (status : RowStatus) → IsNodeBy status h p → (number : ℕ) → p.node ≡ Some number → Names h p number
names-by h p Pending (n, has, is, opened) number e =
    let same : n.number ≡ number = some_is n.number number (sym is ∙ e) in
    record { holder = record { node = n; has = has; is = same }; there = opened-there h n.number number (sym same) opened }
names-by h p Completed (n, has, is, closed) number e =
    let same : n.number ≡ number = some_is n.number number (sym is ∙ e) in
    record { holder = record { node = n; has = has; is = same }; there = closed-there h n.number number (sym same) closed }
names-by h p Failed none number e = none_some (sym none ∙ e)

-- what holds of each number that is among them
pub among-is : (P : ℕ → Type 0) (ns : List ℕ) → AllByRecursion P ns → (q : ℕ) → is_among ns q ≡ true → P q
among-is P [] all q e = absurd (false≢true e)
among-is P (n ∷ ns) all q e = by (n == q) refl (λ rest. among-is P ns all.1 q rest) e
  where
    by : (b : Bool) → (n == q) ≡ b → (is_among ns q ≡ true → P q) → (b || is_among ns q) ≡ true → P q
    by true is later rest = subst P (same_number n q is) all.0
    by false is later rest = later rest

pub both-all : {X : Type 0} (P : X → Type 0) (xs ys : List X) → AllByRecursion P xs → AllByRecursion P ys → AllByRecursion P (xs ++ ys)
both-all P [] ys a b = b
both-all P (x ∷ xs) ys a b = (a.0, both-all P xs ys a.1 b)

pub snaps-all : (P : ℕ → Type 0) (ss : List SnapPoint) → AllByRecursion (λ (p : SnapPoint). (number : ℕ) → p.node ≡ Some number → P number) ss → AllByRecursion P (filter_map (λ (p : SnapPoint). p.node) ss)
snaps-all P [] all = tt
snaps-all P (p ∷ ss) all = by p.node refl (snaps-all P ss all.1)
  where
    by : (o : Option ℕ) → p.node ≡ o → AllByRecursion P (filter_map (λ (p : SnapPoint). p.node) ss) → AllByRecursion P (cons_option o (filter_map (λ (p : SnapPoint). p.node) ss))
    by None is rest = rest
    by (Some number) is rest = (all.0 number is, rest)

pub vols-all : (P : ℕ → Type 0) (vs : List VolPoint) → AllByRecursion (λ (v : VolPoint). P v.node) vs → AllByRecursion P (map (λ (v : VolPoint). v.node) vs)
vols-all P [] all = tt
vols-all P (v ∷ vs) all = (all.0, vols-all P vs all.1)

-- ---- what is named is among the names

or-true : (a b : Bool) → b ≡ true → (a || b) ≡ true
or-true true b e = refl
or-true false b e = e

true-or : (a b : Bool) → a ≡ true → (a || b) ≡ true
true-or a b e = ap (λ c. c || b) e

put-among : (o : Option ℕ) (ns : List ℕ) (number : ℕ) → is_among ns number ≡ true → is_among (cons_option o ns) number ≡ true
put-among None ns number e = e
put-among (Some n) ns number e = or-true (n == number) (is_among ns number) e

here-among : (o : Option ℕ) (ns : List ℕ) (number : ℕ) → o ≡ Some number → is_among (cons_option o ns) number ≡ true
here-among None ns number e = none_some e
here-among (Some n) ns number e = true-or (n == number) (is_among ns number) (ap (λ (m : ℕ). m == number) (some_is n number e) ∙ itself number)

-- each point's number
pub snaps-among : (ss : List SnapPoint) (vs : List VolPoint) → AllByRecursion (λ (p : SnapPoint). (number : ℕ) → p.node ≡ Some number → is_among (names ss vs) number ≡ true) ss
snaps-among [] vs = tt
snaps-among (p ∷ ss) vs = by p.node refl (snaps-among ss vs)
  where
    by : (o : Option ℕ) → p.node ≡ o → AllByRecursion (λ (x : SnapPoint). (number : ℕ) → x.node ≡ Some number → is_among (names ss vs) number ≡ true) ss
        → AllByRecursion (λ (x : SnapPoint). (number : ℕ) → x.node ≡ Some number → is_among (cons_option o (filter_map (λ (y : SnapPoint). y.node) ss) ++ map (λ (v : VolPoint). v.node) vs) number ≡ true) (p ∷ ss)
    by None is rest = ((λ number e. none_some (sym is ∙ e)), rest)
    by (Some n) is rest = (
      (λ number e. true-or (n == number) (is_among (names ss vs) number) (ap (λ (m : ℕ). m == number) (some_is n number (sym is ∙ e)) ∙ itself number)),
      weaker (λ (x : SnapPoint). (number : ℕ) → x.node ≡ Some number → is_among (names ss vs) number ≡ true) (λ (x : SnapPoint). (number : ℕ) → x.node ≡ Some number → ((n == number) || is_among (names ss vs) number) ≡ true)
          (λ x f number e. or-true (n == number) (is_among (names ss vs) number) (f number e)) ss rest,
    )

vols-alone : (vs : List VolPoint) → AllByRecursion (λ (v : VolPoint). is_among (map (λ (x : VolPoint). x.node) vs) v.node ≡ true) vs
vols-alone [] = tt
vols-alone (v ∷ vs) = (
  true-or (v.node == v.node) (is_among (map (λ (x : VolPoint). x.node) vs) v.node) (itself v.node),
  weaker (λ (x : VolPoint). is_among (map (λ (y : VolPoint). y.node) vs) x.node ≡ true) (λ (x : VolPoint). is_among (map (λ (y : VolPoint). y.node) (v ∷ vs)) x.node ≡ true)
      (λ x e. or-true (v.node == x.node) (is_among (map (λ (y : VolPoint). y.node) vs) x.node) e) vs (vols-alone vs),
)

pub vols-among : (ss : List SnapPoint) (vs : List VolPoint) → AllByRecursion (λ (v : VolPoint). is_among (names ss vs) v.node ≡ true) vs
vols-among [] vs = vols-alone vs
vols-among (p ∷ ss) vs = by p.node (vols-among ss vs)
  where
    by : (o : Option ℕ) → AllByRecursion (λ (v : VolPoint). is_among (names ss vs) v.node ≡ true) vs
        → AllByRecursion (λ (v : VolPoint). is_among (cons_option o (filter_map (λ (y : SnapPoint). y.node) ss) ++ map (λ (x : VolPoint). x.node) vs) v.node ≡ true) vs
    by None rest = rest
    by (Some n) rest = weaker (λ (x : VolPoint). is_among (names ss vs) x.node ≡ true) (λ (x : VolPoint). ((n == x.node) || is_among (names ss vs) x.node) ≡ true) (λ x e. or-true (n == x.node) (is_among (names ss vs) x.node) e) vs rest

pub each-among : (ns : List ℕ) → AllByRecursion (λ (n : ℕ). is_among ns n ≡ true) ns
each-among [] = tt
each-among (n ∷ ns) = (
  true-or (n == n) (is_among ns n) (itself n),
  weaker (λ (m : ℕ). is_among ns m ≡ true) (λ (m : ℕ). ((n == m) || is_among ns m) ≡ true) (λ m e. or-true (n == m) (is_among ns m) e) ns (each-among ns),
)

-- ---- each that is named is there, and none stands twice

-- what holds of the number that each names, holds of each that is among them
pub named-all : (P : ℕ → Type 0) (ss : List SnapPoint) (vs : List VolPoint) → AllByRecursion (λ (p : SnapPoint). (number : ℕ) → p.node ≡ Some number → P number) ss → AllByRecursion (λ (v : VolPoint). P v.node) vs
    → (number : ℕ) → is_among (names ss vs) number ≡ true → P number
named-all P ss vs snaps vols = among-is P (names ss vs) (both-all P (filter_map (λ (p : SnapPoint). p.node) ss) (map (λ (v : VolPoint). v.node) vs) (snaps-all P ss snaps) (vols-all P vs vols))

pub named-there : (h : Holding) (now : ℕ) (ss : List SnapPoint) (vs : List VolPoint) → AllByRecursion (IsNode h now) ss → AllByRecursion (IsVolNode h) vs → AreThere (nodes_in h) (names ss vs)
named-there h now ss vs snaps vols = named-all (IsThere h) ss vs
    (weaker (IsNode h now) (λ (p : SnapPoint). (number : ℕ) → p.node ≡ Some number → IsThere h number) (λ p is number e. (names-by h p (status_of p now) is number e).there) ss snaps)
    (weaker (IsVolNode h) (λ (v : VolPoint). IsThere h v.node) (λ v is. opened-there h is.0.number v.node is.2 is.3) vs vols)

snap-same : (a b : SnapKey) → of_snap a ≡ of_snap b → a ≡ b
snap-same a b e = ap (λ (q : Holder). record { account = q.account; number = q.number }) e

vol-same : (a b : VolKey) → of_vol a ≡ of_vol b → a ≡ b
vol-same a b e = ap (λ (q : Holder). record { account = q.account; number = q.number }) e

none-among : (ns : List ℕ) (q : ℕ) → AllByRecursion (λ m. m ≡ q → ⊥) ns → is_among ns q ≡ false
none-among [] q all = refl
none-among (n ∷ ns) q all = by (n == q) refl (none-among ns q all.1)
  where
    by : (b : Bool) → (n == q) ≡ b → is_among ns q ≡ false → (b || is_among ns q) ≡ false
    by true is rest = absurd (all.0 (same_number n q is))
    by false is rest = rest

module _ (h : Holding) (now : ℕ) (are : AreHeld (nodes_in h) h.lines.made (held_in h)) where
  -- one number has one holder
  one-holder : (number : ℕ) (a b : Holder) → IsHolders h number a → IsHolders h number b → a ≡ b
  one-holder number a b x y =
      let same : x.node ≡ y.node = λ i. record { number = (x.is ∙ sym y.is) i } in
      are.apart a b x.node x.has (y.has ∙ ap Some (sym same))

  vol-holder : (v : VolPoint) → IsVolNode h v → IsHolders h v.node (of_vol v.row.key)
  vol-holder v is = record { node = is.0; has = is.1; is = sym is.2 }

  snap-holder : (p : SnapPoint) → IsNode h now p → (number : ℕ) → p.node ≡ Some number → IsHolders h number (of_snap p.key)
  snap-holder p is number e = (names-by h p (status_of p now) is number e).holder

  vols-apart : (vs : List VolPoint) → AllByRecursion (IsVolNode h) vs → IsStrictlySortedBy vol_cmp (map (λ (v : VolPoint). v.row.key) vs) → are_distinct (map (λ (v : VolPoint). v.node) vs) ≡ true
  unfolding IsStrictlySortedBy
  vols-apart [] all up = refl
  vols-apart (v ∷ vs) all up = let alone = none-among (map (λ (x : VolPoint). x.node) vs) v.node (vols-all (λ m. m ≡ v.node → ⊥) vs (others vs all.1 up.0)) in λ i. not (alone i) && vols-apart vs all.1 up.1 i
    where
      others : (xs : List VolPoint) → AllByRecursion (IsVolNode h) xs → AllByRecursion (λ k. vol_cmp v.row.key k ≡ Less) (map (λ (x : VolPoint). x.row.key) xs) → AllByRecursion (λ (x : VolPoint). x.node ≡ v.node → ⊥) xs
      others [] is less = tt
      others (x ∷ xs) is less = (
        (λ e.
            let same : v.row.key ≡ x.row.key = vol-same v.row.key x.row.key (one-holder x.node (of_vol v.row.key) (of_vol x.row.key) (subst (λ n. IsHolders h n (of_vol v.row.key)) (sym e) (vol-holder v all.0)) (vol-holder x is.0)) in
            let less_itself : vol_cmp v.row.key v.row.key ≡ Less = ap (vol_cmp v.row.key) same ∙ less.0 in
            let tied = tied_itself vols_total v.row.key in cc),
        others xs is.1 less.1,
      )

  pub all-apart : (ss : List SnapPoint) (vs : List VolPoint) → AllByRecursion (IsNode h now) ss → AllByRecursion (IsVolNode h) vs
      → IsStrictlySortedBy snap_cmp (map (λ (p : SnapPoint). p.key) ss) → IsStrictlySortedBy vol_cmp (map (λ (v : VolPoint). v.row.key) vs) → are_distinct (names ss vs) ≡ true
  unfolding IsStrictlySortedBy
  all-apart [] vs snaps vols up above = vols-apart vs vols above
  all-apart (p ∷ ss) vs snaps vols up above = by p.node refl (all-apart ss vs snaps.1 vols up.1 above)
    where
      snap-others : (number : ℕ) → p.node ≡ Some number → (xs : List SnapPoint) → AllByRecursion (IsNode h now) xs → AllByRecursion (λ k. snap_cmp p.key k ≡ Less) (map (λ (x : SnapPoint). x.key) xs)
          → AllByRecursion (λ (x : SnapPoint). (m : ℕ) → x.node ≡ Some m → m ≡ number → ⊥) xs
      snap-others number named [] is less = tt
      snap-others number named (x ∷ xs) is less = (
        (λ m e same.
            let one : p.key ≡ x.key = snap-same p.key x.key (one-holder m (of_snap p.key) (of_snap x.key) (snap-holder p snaps.0 m (named ∙ ap Some (sym same))) (snap-holder x is.0 m e)) in
            let less_itself : snap_cmp p.key p.key ≡ Less = ap (snap_cmp p.key) one ∙ less.0 in
            let tied = tied_itself snaps_total p.key in cc),
        snap-others number named xs is.1 less.1,
      )

      vol-others : (number : ℕ) → p.node ≡ Some number → (xs : List VolPoint) → AllByRecursion (IsVolNode h) xs → AllByRecursion (λ (x : VolPoint). x.node ≡ number → ⊥) xs
      vol-others number named [] is = tt
      vol-others number named (x ∷ xs) is = (
        (λ e.
            let one : of_snap p.key ≡ of_vol x.row.key = one-holder x.node (of_snap p.key) (of_vol x.row.key) (snap-holder p snaps.0 x.node (named ∙ ap Some (sym e))) (vol-holder x is.0) in
            false≢true (ap (λ (q : Holder). q.is_volume) one)),
        vol-others number named xs is.1,
      )

      alone : (number : ℕ) → p.node ≡ Some number → is_among (names ss vs) number ≡ false
      alone number named = none-among (names ss vs) number (both-all (λ m. m ≡ number → ⊥) (filter_map (λ (x : SnapPoint). x.node) ss) (map (λ (x : VolPoint). x.node) vs)
          (snaps-all (λ m. m ≡ number → ⊥) ss (snap-others number named ss snaps.1 up.0)) (vols-all (λ m. m ≡ number → ⊥) vs (vol-others number named vs vols)))

      by : (o : Option ℕ) → p.node ≡ o → are_distinct (names ss vs) ≡ true → are_distinct (cons_option o (filter_map (λ (x : SnapPoint). x.node) ss) ++ map (λ (x : VolPoint). x.node) vs) ≡ true
      by None is rest = rest
      by (Some number) is rest = λ i. not (alone number is i) && rest i

-- a node that is named is wanted
pub itself-wanted : (nodes : NodeMap) (named : Set) (number : ℕ) → IsIn named number → IsWanted nodes named number
itself-wanted nodes named number there = (number, there, (zero, refl))
