-- A checkpoint whose parts were made of what a store keeps says its machine, and has all rules.
use Rattle.std.proofs.Common.{◌≡◌, ℕ, ◌≤◌, ◌^◌, Bool, true, false, ◌&&◌, ◌==◌, cond, List, [], ◌∷◌, ◌++◌, map, Option, None, Some, is_some, refl, sym, ap, subst, ◌∙◌, arith}
use Rattle.std.proofs.lemmas.Bool.Decides.{nat_tests}
use Rattle.std.specs.Prelude.{flat_map}
use Rattle.std.specs.List.{AllByRecursion, filter, list_all}
use Rattle.std.specs.List.Sorted.{IsStrictlySortedBy}
use Rattle.std.specs.Map.{keys_of}
use Rattle.std.specs.declared.cmp.Ordering.{Ordering}
use Rattle.std.specs.Ordering.{nat_cmp, eq_by_cmp}
use Rattle.std.specs.Cmp.{nat_cmp_total}
use Rattle.std.specs.FinMap.{FinMap, get, empty, entries, find, from_entries, get-empty, get-from_entries, nat_cmp-IsAntisymmetric}
use Rattle.ebs_tables.proofs.MapEdits.{is_same, tied}
use Rattle.ebs_tables.proofs.TreeMaps.{entries-sorted}
use Rattle.ebs_model.specs.declared.keys.Moment.{Moment}
use Rattle.ebs_model.specs.declared.policy.Policy.{Policy}
use Rattle.ebs_model.specs.declared.rules.Rule.{Rule}
use Rattle.ebs_model.specs.declared.rows.SnapRow.{SnapRow}
use Rattle.ebs_model.specs.declared.rows.VolRow.{VolRow}
use Rattle.ebs_model.specs.Keys.{snap_cmp, vol_cmp}
use Rattle.ebs_model.specs.Quotas.{last_second}
use Rattle.ebs_model.specs.Time.{is_failed, stays, status_at}
use Rattle.ebs_model.specs.declared.rows.RowStatus.{RowStatus}
use Rattle.ebs_model.specs.declared.request.Request.{Request}
use Rattle.ebs_model.specs.declared.request.Request.TheVariants.{StartSnapshot, CreateVolume}
use Rattle.ebs_model.specs.Rules.{Book}
use Rattle.ebs_model.specs.Rows.{Rows}
use Rattle.ebs_model.specs.inner.Orders.{vols_total}
use Rattle.ebs_model.specs.inner.Rows.{aged_snaps}
use Rattle.ebs_model.specs.Machine.{Machine, advance, aged_rows, rows_of, snap_rows}
use Rattle.ebs_records.specs.Fields.{IsDigest}
use Rattle.ebs_slots.specs.inner.Slots.{SlotTable}
use Rattle.ebs_collect.specs.Slices.{IsCounted}
use Rattle.ebs_checkpoints.specs.declared.nodes.EntryRow.{EntryRow}
use Rattle.ebs_checkpoints.specs.declared.nodes.NodeRow.{NodeRow}
use Rattle.ebs_checkpoints.specs.declared.nodes.CopyRow.{CopyRow}
use Rattle.ebs_checkpoints.specs.declared.nodes.SlotRow.{SlotRow}
use Rattle.ebs_checkpoints.specs.declared.owned.AccountRow.{AccountRow}
use Rattle.ebs_checkpoints.specs.declared.owned.VolPoint.{VolPoint}
use Rattle.ebs_checkpoints.specs.declared.snapshots.SnapPoint.{SnapPoint}
use Rattle.ebs_checkpoints.specs.declared.checkpoint.Checkpoint.{Checkpoint}
use Rattle.ebs_checkpoints.specs.Nodes.{IsSlot}
use Rattle.ebs_row_rules.specs.Order.{ascends, has_ordered_accounts, has_ordered_blocks, has_ordered_entries, has_ordered_members, has_ordered_parts, has_ordered_rows, has_ordered_tokens, is_ordered, policy_cmp, rule_cmp}
use Rattle.ebs_row_rules.specs.Limits.{has_copy_index}
use Rattle.ebs_row_rules.specs.Slots.{entry_blocks}
use Rattle.ebs_row_rules.specs.Owners.{listed}
use Rattle.ebs_node_rules.specs.Nodes.{is_forest, names}
use Rattle.ebs_node_rules.specs.inner.Nodes as pairs
use Rattle.ebs_node_rules.specs.Arrays.{arrays_of}
use Rattle.ebs_node_rules.specs.States.{has_node_by, is_none_of, status_of}
use Rattle.ebs_checkpoint_rules.specs.Rules.{HasRules, IsCheckpoint}
use Rattle.ebs_recovery.specs.inner.Bases.{machine_of}
use Rattle.ebs_recovery.specs.Bases.{books_of, row_of, slots_of, token_entry}
use Rattle.ebs_recovery.specs.inner.Fits.{AgreeOn}
use Rattle.ebs_lawful.specs.Arrays.{AreArrays}
use Rattle.ebs_lawful.specs.Lawful.{IsLawful}
use Rattle.ebs_lawful.specs.Snapshots.{IsSnapRow}
use Rattle.ebs_lawful.specs.Tokens.{Gives}
use Rattle.ebs_lawful.proofs.Maps.{each-entry, none_some}
use Rattle.ebs_lawful_points.specs.PointLaws.{IsInOrder, has_own_calls}
use Rattle.ebs_lawful_points.proofs.Parts.{all-of, both, each-of, weaker}
use Rattle.ebs_lawful_points.proofs.PointRules.{laws-give-rules}
use Rattle.ebs_lawful_points.proofs.RowRules.{shares-ascend}
use Rattle.ebs_point_rules.specs.Blocks.{AreGiven, HaveSlots, have_nodes}
use Rattle.ebs_point_rules.specs.Laws.{IsSettled}
use Rattle.ebs_point_rules.specs.Listed.{IsListedOf, book_in, own_in}
use Rattle.ebs_point_rules.specs.Moved.{AreMoved}
use Rattle.ebs_recovery.specs.Bases.{HasNoCopies, has_no_copies}
use Rattle.ebs_point_rules.specs.Values.{HasAccountValues, HasPolicyValues, HasRuleValues, HasShortLists, HasSnapValues, HasValues, HasVolValues}
use Rattle.ebs_point_rules.proofs.Blocks.{stamps-stored}
use Rattle.ebs_point_rules.proofs.Copies.{nothing-moved}
use Rattle.ebs_point_rules.proofs.Entries.{lists-ascend, lists-say}
use Rattle.ebs_point_rules.proofs.FitArrays.{arrays-fit}
use Rattle.ebs_point_rules.proofs.FitStates.{states-fit}
use Rattle.ebs_point_rules.proofs.Settled.{time-settles}
use Rattle.ebs_point_rules.proofs.Spelled.{rules-spell}
use Rattle.ebs_holds.specs.Holders.{of_snap, of_vol}
use Rattle.ebs_holds.specs.Holds.{AreHeld, Holding, held_in, nodes_in}
use Rattle.ebs_kept.specs.Stamps.{AreDigests, Digests}
use Rattle.ebs_kept.specs.inner.Shown.{snap_array}
use Rattle.ebs_pointed.specs.Stored.{IsSlotOf}
use Rattle.ebs_pointed.specs.Nodes.{number_or}
use Rattle.ebs_pointed.specs.Accounts.{AreBegun, IsFirst}
use Rattle.ebs_pointed.specs.Placed.{ArePlaced}
use Rattle.ebs_pointed.specs.Rules.{AreNumbered, AreRulesOf, own_rules, rules_in}
use Rattle.ebs_pointed.specs.Snapshots.{IsPoint, listed_row}
use Rattle.ebs_kept.specs.inner.Nodes.{HasNodeBy, HaveNodes}
use Rattle.ebs_point.specs.Nodes.{AreLive, AreNodesOf, AreThere}
use Rattle.ebs_point.specs.Points.{AreKeysOf, CanPoint, IsPointAt}
use Rattle.ebs_point.specs.Slots.{AreSlotsOf}
use Rattle.ebs_point.proofs.Left.{IsLeft, array-now, array-of, each-left, each-there, entries-now, rows-now, unmapped}
use Rattle.ebs_point.proofs.Living.{all-live}
use Rattle.ebs_point.proofs.Naming.{IsNode, IsVolNode, named-there, node-is, vol-node-is}
use Rattle.ebs_point.proofs.Rooted.{arrays-now, disks-now, nodes-fit, rooted}
use Rattle.ebs_point.proofs.Entered.{IsBlockOf, agree, are-given, blocks-are-of, nodes-within, stepwise}

-- ---- what the rows of a moment name

module _ (now : ℕ) (rows : Rows) (h : Holding) (have : HaveNodes now rows h) where
  point-node : (p : SnapPoint) → IsLeft now rows.snaps p.key (row_of p) → IsPoint h now p → IsNode h now p
  point-node p left point = node-is h now p point.node
      (subst (λ (s : RowStatus). HasNodeBy s h (of_snap p.key)) (sym (ap (λ (r : SnapRow). status_at r now) left.is)) (have.snapshots p.key left.row left.there left.stays))

  pub points-named : (ss : List SnapPoint) → entries (aged_snaps now rows.snaps) ≡ map listed_row ss → AllByRecursion (IsPoint h now) ss → AllByRecursion (IsNode h now) ss
  points-named ss is all = weaker (λ (p : SnapPoint). IsLeft now rows.snaps p.key (row_of p) × IsPoint h now p) (IsNode h now) (λ p e. point-node p e.0 e.1) ss
      (both (λ (p : SnapPoint). IsLeft now rows.snaps p.key (row_of p)) (IsPoint h now) ss (each-left now rows.snaps ss is) all)

  pub vols-there : (vs : List VolPoint) → entries rows.vols ≡ map (λ (v : VolPoint). (v.row.key, v.row)) vs → AllByRecursion (λ (v : VolPoint). get rows.vols v.row.key ≡ Some v.row) vs
  vols-there vs is = unmapped (λ e. get rows.vols e.0 ≡ Some e.1) (λ (v : VolPoint). (v.row.key, v.row)) vs
      (subst (AllByRecursion (λ e. get rows.vols e.0 ≡ Some e.1)) is (each-entry vols_total rows.vols (λ e. get rows.vols e.0 ≡ Some e.1) (λ e found. found)))

  pub vols-named : (vs : List VolPoint) → entries rows.vols ≡ map (λ (v : VolPoint). (v.row.key, v.row)) vs → AllByRecursion (λ (v : VolPoint). v.node ≡ number_or h (of_vol v.row.key)) vs → AllByRecursion (IsVolNode h) vs
  vols-named vs is all = weaker (λ (v : VolPoint). (get rows.vols v.row.key ≡ Some v.row) × (v.node ≡ number_or h (of_vol v.row.key))) (IsVolNode h)
      (λ v e. vol-node-is h v e.1 (have.volumes v.row.key v.row e.0)) vs
      (both (λ (v : VolPoint). get rows.vols v.row.key ≡ Some v.row) (λ (v : VolPoint). v.node ≡ number_or h (of_vol v.row.key)) vs (vols-there vs is) all)

  -- is there
  pub names-there : (ss : List SnapPoint) (vs : List VolPoint) → entries (aged_snaps now rows.snaps) ≡ map listed_row ss → AllByRecursion (IsPoint h now) ss
      → entries rows.vols ≡ map (λ (v : VolPoint). (v.row.key, v.row)) vs → AllByRecursion (λ (v : VolPoint). v.node ≡ number_or h (of_vol v.row.key)) vs → AreThere (nodes_in h) (names ss vs)
  names-there ss vs snaps points vols nodes = named-there h now ss vs (points-named ss snaps points) (vols-named vs vols nodes)

-- ---- a stamp that is named has its slot

slot-in : (keys : FinMap nat_cmp ℕ) (rows : List SlotRow) → AllByRecursion (IsSlotOf keys) rows → (stamp slot : ℕ) → find nat_cmp stamp (map (λ (r : SlotRow). (r.key, r.slot)) rows) ≡ Some slot → get keys stamp ≡ Some slot
slot-in keys [] all stamp slot e = absurd (cc)
slot-in keys (r ∷ rows) all stamp slot e = by (λ h. slot-in keys rows all.1 stamp slot h) (eq_by_cmp nat_cmp stamp r.key) refl e
  where
    by : (find nat_cmp stamp (map (λ (r : SlotRow). (r.key, r.slot)) rows) ≡ Some slot → get keys stamp ≡ Some slot)
        → (b : Bool) → eq_by_cmp nat_cmp stamp r.key ≡ b → cond b (Some r.slot) (find nat_cmp stamp (map (λ (r : SlotRow). (r.key, r.slot)) rows)) ≡ Some slot → get keys stamp ≡ Some slot
    by rest true t h = ap (get keys) (is_same nat_cmp-IsAntisymmetric stamp r.key t) ∙ all.0 ∙ h
    by rest false t h = rest h

keys-are : (keys : FinMap nat_cmp ℕ) (rows : List SlotRow) → AllByRecursion (IsSlotOf keys) rows → AreKeysOf keys rows
unfolding slots_of
keys-are keys rows all stamp slot e = slot-in keys rows all stamp slot (sym (get-from_entries nat_cmp_total (map (λ (r : SlotRow). (r.key, r.slot)) rows) stamp) ∙ e)

-- ---- a call that gives a client token

first-by : (text : List ℕ) (request : Request) → Gives text request → IsFirst request
first-by text (StartSnapshot size parent description tags token timeout) gives = tt
first-by text (CreateVolume origin size tags token) gives = tt
first-by text request gives = absurd (gives)

-- ---- whose rules there are

same-number : (a b : ℕ) → (a == b) ≡ true → a ≡ b
same-number a b e = grind (arith, nat_tests)

itself : (n : ℕ) → (n == n) ≡ true
itself n = grind (arith, nat_tests)

abbrev found-rule : List Rule → ℕ → ℕ → Option Rule
found-rule rules account number = find nat_cmp number (map (λ (r : Rule). (r.key.number, r)) (filter (λ (r : Rule). r.key.account == account) rules))

-- one more doesn't hide the others
still-found : (x : Rule) (rules : List Rule) (account number : ℕ) → is_some (found-rule rules account number) ≡ true → is_some (found-rule (x ∷ rules) account number) ≡ true
still-found x rules account number e = by (x.key.account == account) (eq_by_cmp nat_cmp number x.key.number)
  where
    or : (t : Bool) → is_some (cond t (Some x) (found-rule rules account number)) ≡ true
    or true = refl
    or false = e

    by : (b t : Bool) → is_some (find nat_cmp number (map (λ (r : Rule). (r.key.number, r)) (cond b (x ∷ filter (λ (r : Rule). r.key.account == account) rules) (filter (λ (r : Rule). r.key.account == account) rules)))) ≡ true
    by true t = or (eq_by_cmp nat_cmp number x.key.number)
    by false t = e

here-found : (x : Rule) (rules : List Rule) → is_some (found-rule (x ∷ rules) x.key.account x.key.number) ≡ true
here-found x rules =
    ap (λ (b : Bool). is_some (find nat_cmp x.key.number (map (λ (r : Rule). (r.key.number, r)) (cond b (x ∷ filter (λ (r : Rule). r.key.account == x.key.account) rules) (filter (λ (r : Rule). r.key.account == x.key.account) rules))))) (itself x.key.account)
    ∙ ap (λ (t : Bool). is_some (cond t (Some x) (found-rule rules x.key.account x.key.number))) (tied nat_cmp_total x.key.number)

each-found-rule : (rules : List Rule) → AllByRecursion (λ (r : Rule). is_some (found-rule rules r.key.account r.key.number) ≡ true) rules
each-found-rule [] = tt
each-found-rule (x ∷ rules) = (
  here-found x rules,
  weaker (λ (r : Rule). is_some (found-rule rules r.key.account r.key.number) ≡ true) (λ (r : Rule). is_some (found-rule (x ∷ rules) r.key.account r.key.number) ≡ true)
      (λ r e. still-found x rules r.key.account r.key.number e) rules (each-found-rule rules),
)

module _ (books : FinMap nat_cmp Book) (rules : List Rule) (are : AreRulesOf books rules) where
  no-rules : (r : Rule) → get books r.key.account ≡ None → is_some (found-rule rules r.key.account r.key.number) ≡ true → ⊥
  no-rules r none there =
      let gone : found-rule rules r.key.account r.key.number ≡ None =
      sym (get-from_entries nat_cmp_total (map (λ (x : Rule). (x.key.number, x)) (filter (λ (x : Rule). x.key.account == r.key.account) rules)) r.key.number)
      ∙ ap (λ (m : FinMap nat_cmp Rule). get m r.key.number) (are r.key.account ∙ ap rules_in none) ∙ get-empty nat_cmp r.key.number in
      let e : false ≡ true = sym (ap is_some gone) ∙ there in
      cc

  has-book : (r : Rule) → is_some (found-rule rules r.key.account r.key.number) ≡ true → (o : Option Book) → get books r.key.account ≡ o → is_some o ≡ true
  has-book r there None none = absurd (no-rules r none there)
  has-book r there (Some b) is = refl

  pub have-books : (all : FinMap nat_cmp Book) → ((account : ℕ) → get all account ≡ get books account) → list_all (λ (r : Rule). is_some (get all r.key.account)) rules ≡ true
  have-books all same = all-of (λ (r : Rule). is_some (get all r.key.account)) rules (weaker (λ (r : Rule). is_some (found-rule rules r.key.account r.key.number) ≡ true) (λ (r : Rule). is_some (get all r.key.account) ≡ true)
      (λ r there. ap is_some (same r.key.account) ∙ has-book r there (get books r.key.account) refl) rules (each-found-rule rules))

-- ---- a checkpoint of such parts

pub record IsMade (m : Machine) (rows : Rows) (h : Holding) (s : SlotTable) (digests : Digests) (at : Moment) (point : Checkpoint) : Type 0 where
  pub clock : point.clock ≡ at
  pub changes : point.accepted ≡ m.changes
  pub stamps : point.next_stamp ≡ m.stamps
  pub secret : point.secret ≡ m.secret
  pub digest : IsDigest point.secret
  pub next : point.next_copy ≡ 0
  pub archive : point.archive ≡ []
  pub snaps : entries (aged_snaps at.second rows.snaps) ≡ map listed_row point.snapshots
  pub points : AllByRecursion (IsPoint h at.second) point.snapshots
  pub vols : entries rows.vols ≡ map (λ (v : VolPoint). (v.row.key, v.row)) point.volumes
  pub vol_nodes : AllByRecursion (λ (v : VolPoint). v.node ≡ number_or h (of_vol v.row.key)) point.volumes
  pub vol_values : AllByRecursion HasVolValues point.volumes
  pub order : has_ordered_accounts point.accounts ≡ true
  pub own : (account : ℕ) → own_in (listed point.accounts account) ≡ get rows.own account
  pub books : (account : ℕ) → book_in point.rules (listed point.accounts account) ≡ get rows.books account
  pub tokens : entries rows.tokens ≡ flat_map (λ (a : AccountRow). map (token_entry a.account) a.tokens) point.accounts
  pub calls : list_all has_own_calls point.accounts ≡ true
  pub account_values : AllByRecursion HasAccountValues point.accounts
  pub rules : AreRulesOf rows.books point.rules
  pub rules_ascend : ascends rule_cmp (λ (r : Rule). r.key) point.rules ≡ true
  pub rule_values : AllByRecursion HasRuleValues point.rules
  pub policies : entries rows.policies ≡ map (λ (p : Policy). (p.key, p)) point.policies
  pub policy_values : AllByRecursion HasPolicyValues point.policies
  pub nodes : AreNodesOf (nodes_in h) (names point.snapshots point.volumes) digests point.nodes
  pub slots : AreSlotsOf s.keys point.nodes point.standard

keys-mapped : {K X Y : Type 0} (key : X → K) (f : X → Y) (xs : List X) → keys_of (map {B = K × Y} (λ x. (key x, f x)) xs) ≡ map key xs
keys-mapped key f [] = refl
keys-mapped key f (x ∷ xs) = ap (λ ks. key x ∷ ks) (keys-mapped key f xs)

sorted-by : {K X Y : Type 0} (R : K → K → Ordering) (m : FinMap R Y) (key : X → K) (f : X → Y) (xs : List X) → entries m ≡ map {B = K × Y} (λ x. (key x, f x)) xs → IsStrictlySortedBy R (map key xs)
sorted-by R m key f xs is = subst (IsStrictlySortedBy R) (ap keys_of is ∙ keys-mapped key f xs) (entries-sorted R m)

module _ (m : Machine) (rows : Rows) (h : Holding) (s : SlotTable) (at : Moment) (keeps : CanPoint m rows h s at) (digests : Digests) (are : AreDigests m digests) (point : Checkpoint) (made : IsMade m rows h s digests at point) where
  abbrev now : ℕ
  now = at.second

  snap-nodes : AllByRecursion (IsNode h now) point.snapshots
  snap-nodes = points-named now rows h keeps.nodes point.snapshots made.snaps made.points

  vol-nodes : AllByRecursion (IsVolNode h) point.volumes
  vol-nodes = vols-named now rows h keeps.nodes point.volumes made.vols made.vol_nodes

  copies : AllByRecursion (λ (p : SnapPoint). p.copies ≡ []) point.snapshots
  copies = weaker (IsPoint h now) (λ (p : SnapPoint). p.copies ≡ []) (λ p e. e.copies) point.snapshots made.points

  -- ---- what it says

  is-listed : IsListedOf (advance m at) point
  is-listed = record {
    clock = made.clock;
    changes = made.changes;
    stamps = made.stamps;
    secret = made.secret;
    snaps = entries-now m.snaps rows.snaps (snap_array h) m.clock.second now keeps.later keeps.shows.snaps (arrays_of point.nodes) point.snapshots made.snaps
        (arrays-now h now point.snapshots point.volumes digests point.nodes made.nodes rows.snaps (array-now m.snaps rows.snaps (snap_array h) m.clock.second now keeps.later keeps.shows.snaps)
        (array-of m.snaps rows.snaps (snap_array h) m.clock.second now keeps.later keeps.shows.snaps) (each-left now rows.snaps point.snapshots made.snaps) copies snap-nodes);
    accounts = record {
      order = made.order;
      own = λ account. made.own account ∙ sym (ap (λ t. get t account) keeps.shows.own);
      books = λ account. made.books account ∙ sym (ap (λ t. get t account) keeps.shows.books);
    };
    tokens = ap entries keeps.shows.tokens ∙ made.tokens;
    vols = ap entries keeps.shows.vols ∙ made.vols;
    disks = ap entries keeps.shows.disks ∙ disks-now h now point.snapshots point.volumes digests point.nodes made.nodes rows.vols made.vols vol-nodes;
    policies = ap entries keeps.shows.policies ∙ made.policies;
  }

  pub says : machine_of point ≡ advance m at
  says = lists-say (advance m at) point is-listed

  settled : IsSettled (advance m at)
  settled = time-settles m at keeps.later keeps.early keeps.lawful keeps.arrays

  -- ---- nothing is in the archive

  pub none-moved : HasNoCopies point
  none-moved = record {
    rows = all-of has_no_copies point.snapshots (weaker (λ (p : SnapPoint). p.copies ≡ []) (λ (p : SnapPoint). has_no_copies p ≡ true) (λ p e. ap is_none_of e) point.snapshots copies);
    slots = made.archive;
    next = subst (λ (n : ℕ). n ≤ 2 ^ 42) (sym made.next) (omega arith);
  }

  -- ---- its lists are in order

  blocks-there : AllByRecursion (IsBlockOf (nodes_in h) digests) (entry_blocks point.nodes)
  blocks-there = blocks-are-of (nodes_in h) digests point.nodes made.nodes.entries

  snap-rows : AllByRecursion (λ (p : SnapPoint). IsSnapRow p.key (row_of p)) point.snapshots
  snap-rows = weaker (λ (p : SnapPoint). get (aged_snaps now rows.snaps) p.key ≡ Some (row_of p)) (λ (p : SnapPoint). IsSnapRow p.key (row_of p))
      (λ p there. settled.lawful.snaps p.key (row_of p) (ap (λ t. get t p.key) (rows-now m.snaps rows.snaps (snap_array h) m.clock.second now keeps.later keeps.shows.snaps) ∙ there)) point.snapshots
      (each-there now rows.snaps point.snapshots made.snaps)

  part : (p : SnapPoint) → IsPoint h now p → IsSnapRow p.key (row_of p) → has_ordered_parts p ≡ true
  part p is row =
      let shared = shares-ascend p.shared row.shared.ascend in
      let moved : ascends nat_cmp (λ (c : CopyRow). c.index) p.copies ≡ true = ap (ascends nat_cmp (λ (c : CopyRow). c.index)) is.copies in
      λ i. is.puts i && (shared i && moved i)

  members : has_ordered_members point ≡ true
  members =
      let lists = lists-ascend (advance m at) point is-listed in
      let parts = all-of has_ordered_parts point.snapshots (weaker (λ (p : SnapPoint). IsPoint h now p × IsSnapRow p.key (row_of p)) (λ (p : SnapPoint). has_ordered_parts p ≡ true) (λ p e. part p e.0 e.1) point.snapshots
      (both (IsPoint h now) (λ (p : SnapPoint). IsSnapRow p.key (row_of p)) point.snapshots made.points snap-rows)) in
      let own = all-of has_ordered_entries point.nodes (weaker (λ (n : NodeRow). pairs.ascends (λ (e : EntryRow). e.index) n.entries ≡ true) (λ (n : NodeRow). has_ordered_entries n ≡ true)
      (λ n up. stepwise (λ (e : EntryRow). e.index) n.entries up) point.nodes (each-of (λ (n : NodeRow). pairs.ascends (λ (e : EntryRow). e.index) n.entries) point.nodes made.nodes.chained.entries)) in
      λ i. lists.tokens i && (parts i && own i)

  ordered : is_ordered point ≡ true
  ordered =
      let lists = lists-ascend (advance m at) point is-listed in
      let nodes = stepwise (λ (n : NodeRow). n.number) point.nodes made.nodes.chained.ascend in
      let archive : ascends nat_cmp (λ (r : SlotRow). r.key) point.archive ≡ true = ap (ascends nat_cmp (λ (r : SlotRow). r.key)) made.archive in
      λ i. (made.order i && (lists.snapshots i && (lists.volumes i && (made.rules_ascend i && lists.policies i)))) && ((nodes i && (made.slots.ascend i && archive i)) && members i)

  in-order : IsInOrder point
  in-order = record {
    ordered = ordered;
    books = have-books rows.books point.rules made.rules (books_of point) (λ account. ap (λ (x : Machine). get x.books account) says ∙ ap (λ t. get t account) keeps.shows.books);
    calls = made.calls;
    copies = all-of (λ (p : SnapPoint). list_all has_copy_index p.copies) point.snapshots (weaker (λ (p : SnapPoint). p.copies ≡ []) (λ (p : SnapPoint). list_all has_copy_index p.copies ≡ true) (λ p e. ap (list_all has_copy_index) e) point.snapshots copies);
    nodes = nodes-within (nodes_in h) digests point.nodes made.nodes.entries;
  }

  -- ---- all rules

  values : HasShortLists point → HasValues point
  values short = record {
    secret = made.digest;
    accounts = made.account_values;
    snapshots = weaker (IsPoint h now) HasSnapValues (λ p e. e.values) point.snapshots made.points;
    volumes = made.vol_values;
    rules = made.rule_values;
    policies = made.policy_values;
    nodes = made.nodes.values;
    standard = made.slots.values;
    archive = subst (AllByRecursion IsSlot) (sym made.archive) tt;
    short = short;
  }

  forest : is_forest point ≡ true
  forest = rooted h now point.snapshots point.volumes digests point.nodes made.nodes keeps.held snap-nodes vol-nodes
      (sorted-by snap_cmp (aged_snaps now rows.snaps) (λ (p : SnapPoint). p.key) row_of point.snapshots made.snaps) (sorted-by vol_cmp rows.vols (λ (v : VolPoint). v.row.key) (λ (v : VolPoint). v.row) point.volumes made.vols)

  nodes-are : have_nodes point ≡ true
  nodes-are = ap (λ (t : Moment). list_all (λ (p : SnapPoint). has_node_by (status_of p t.second) point.nodes p) point.snapshots) made.clock ∙ nodes-fit h now point.snapshots point.volumes digests point.nodes made.nodes snap-nodes

  pub all-rules : HasRules point
  all-rules =
      let moved = nothing-moved point none-moved in
      let rests = subst IsSettled (sym says) settled in
      let limits = laws-give-rules point in-order rests.lawful in
      let given = are-given m keeps.stamps point digests (nodes_in h) are made.stamps copies blocks-there in
      record {
        ordered = ordered;
        within = limits.0;
        owned = limits.1;
        in_quotas = limits.2;
        stored = stamps-stored point rests.lawful.counts given (record { stored = made.slots.stored; places = made.slots.places; apart = made.slots.apart }) moved;
        forest = forest;
        states = states-fit point ordered rests.lawful rests.rests moved nodes-are;
        arrays = arrays-fit point ordered rests.arrays moved;
      }

  pub is-checkpoint : HasShortLists point → IsCheckpoint point
  is-checkpoint short = record { spelling = rules-spell point all-rules (values short); rules = all-rules }

  -- ---- its slots are those of the store

  pub keys-agree : AgreeOn (advance m at) (slots_of point.standard) s.keys
  keys-agree = subst (λ (x : Machine). AgreeOn x (slots_of point.standard) s.keys) says (agree s.keys point.nodes point.standard made.slots point refl copies)

  pub is-point : IsPointAt m s at point
  is-point = record { machine = says; copies = none-moved; rules = all-rules; checkpoint = is-checkpoint; keys = keys-agree; stored = keys-are s.keys point.standard made.slots.slots }

-- ---- what the nodes of rows want

module _ (m : Machine) (rows : Rows) (h : Holding) (s : SlotTable) (at : Moment) (keeps : CanPoint m rows h s at) where
  pub vols-placed : ArePlaced (λ (row : VolRow). row.key) rows.vols
  vols-placed key row found = (keeps.lawful.vols key row (ap (λ t. get t key) keeps.shows.vols ∙ found)).place

  pub policies-placed : ArePlaced (λ (policy : Policy). policy.key) rows.policies
  policies-placed key policy found = (keeps.lawful.policies key policy (ap (λ t. get t key) keeps.shows.policies ∙ found)).place

  pub rules-numbered : AreNumbered rows.books
  rules-numbered account book found number rule there =
      let is = (keeps.lawful.books account book (ap (λ t. get t account) keeps.shows.books ∙ found)).rules number rule there in
      (is.owner, is.place)

  pub all-begun : AreBegun rows
  all-begun = record {
    own = λ account own found. (keeps.lawful.own.own account own (ap (λ t. get t account) keeps.shows.own ∙ found)).begun;
    books = λ account book found. (keeps.lawful.books account book (ap (λ t. get t account) keeps.shows.books ∙ found)).begun;
    tokens = λ key row found. first-by key.text row.first (keeps.lawful.tokens key row (ap (λ t. get t key) keeps.shows.tokens ∙ found)).gives;
  }

  pub names-live : (digests : Digests) → AreDigests m digests → (ss : List SnapPoint) (vs : List VolPoint) → entries (aged_snaps at.second rows.snaps) ≡ map listed_row ss → AllByRecursion (IsPoint h at.second) ss
      → entries rows.vols ≡ map (λ (v : VolPoint). (v.row.key, v.row)) vs → AllByRecursion (λ (v : VolPoint). v.node ≡ number_or h (of_vol v.row.key)) vs → AreLive (nodes_in h) (names ss vs) digests
  names-live digests are ss vs snaps points vols nodes = all-live m rows h s at keeps digests are ss vs (each-left at.second rows.snaps ss snaps) (points-named at.second rows h keeps.nodes ss snaps points)
      (vols-there at.second rows h keeps.nodes vs vols) (vols-named at.second rows h keeps.nodes vs vols nodes)
