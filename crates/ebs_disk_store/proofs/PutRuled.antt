-- What the kept form does for a put, and that its record is within all limits.
use Rattle.std.proofs.Common.{◌≡◌, ℕ, ◌*◌, ◌<◌, ◌≤◌, ◌^◌, Bool, true, false, ◌&&◌, nat_le, nat_lt, cond, List, [], Option, None, Some, Result, Ok, Err, refl, sym, ap, subst, ◌∙◌, arith}
use Rattle.std.specs.Option.{option_map}
use Rattle.std.specs.FinMap.{get}
use Rattle.std.proofs.lemmas.Bool.Decides.{nat_tests}
use Rattle.ebs_model.specs.declared.keys.Moment.{Moment}
use Rattle.ebs_model.specs.declared.keys.SnapKey.{SnapKey}
use Rattle.ebs_model.specs.declared.keys.VolKey.{VolKey}
use Rattle.ebs_model.specs.declared.rows.SnapRow.{SnapRow}
use Rattle.ebs_model.specs.declared.rows.VolRow.{VolRow}
use Rattle.ebs_model.specs.declared.request.Request.TheVariants.{PutSnapshotBlock, WriteVolumeBlock}
use Rattle.ebs_model.specs.declared.change.Change.{Change}
use Rattle.ebs_model.specs.declared.change.Decision.{Decision}
use Rattle.ebs_model.specs.declared.change.Decision.TheVariants as decision
use Rattle.ebs_model.specs.declared.answer.Answer.{Answer}
use Rattle.ebs_model.specs.declared.answer.Failure.{Failure}
use Rattle.ebs_model.specs.declared.answer.Failure.TheVariants.{Refused, Memory}
use Rattle.ebs_model.specs.declared.answer.Refusal.{Refusal}
use Rattle.ebs_model.specs.declared.answer.Refusal.TheVariants.{Exhausted, BadIndex}
use Rattle.ebs_model.specs.declared.answer.Spent.TheVariants.{Changes}
use Rattle.ebs_model.specs.Refuse.{◌>>=◌, ◌>>◌, refuse_if, refuse_bad, some_or}
use Rattle.ebs_model.specs.Limits.{is_size, most_gib}
use Rattle.ebs_model.specs.Quotas.{blocks_of}
use Rattle.ebs_model.specs.Kept.{same}
use Rattle.ebs_model.specs.Time.{Snapshot, rested, stays}
use Rattle.ebs_model.specs.Access.{open_upload}
use Rattle.ebs_model.specs.Machine.{Machine, advance, rows_of, is_spent}
use Rattle.ebs_model.specs.Decide.{decide}
use Rattle.ebs_model.specs.Decisions.{alters}
use Rattle.ebs_model.specs.declared.answer.Answer.TheVariants.{BlockWritten}
use Rattle.ebs_model.specs.Step.{act, finish, changed, bytes_of, refuse_digest}
use Rattle.ebs_model.specs.inner.Follows.{Agrees}
use Rattle.ebs_model.proofs.Aged.{get-aged, aged_row}
use Rattle.ebs_model.proofs.RowLaws.{get-row, row_in}
use Rattle.ebs_catalog.specs.Held.{IsFit}
use Rattle.ebs_kept.specs.inner.Requests.{Brings, with_digest}
use Rattle.ebs_kept.specs.inner.Shown.{AreGoodRows, IsGoodRow}
use Rattle.ebs_kept.proofs.Decided.{IfDone, achieved, after, passed, of_done, decides}
use Rattle.ebs_records.specs.Fields.{IsDigest}
use Rattle.ebs_records.specs.declared.record.Record.TheVariants.{Accepted}
use Rattle.ebs_records.specs.Records.{IsRecord, is_moment, is_index, is_slot}
use Rattle.ebs_disk_store.specs.declared.heads.PutHead.{PutHead}
use Rattle.ebs_disk_store.specs.declared.heads.PutHead.TheVariants as head
use Rattle.ebs_disk_store.specs.inner.Calls.{ruling_of}
use Rattle.ebs_disk_store.specs.inner.Puts.{with_bytes, index_of, stated_in, bad_index, refuse_head, kept_put, put_at, PutRules, IsBounded}

-- ---- what rows decide

abbrev IsChanged : Decision → Type 0
IsChanged (decision.Change c answer) = Unit {0}
IsChanged (decision.Kept answer) = ⊥
IsChanged (decision.View answer) = ⊥
IsChanged (decision.Read row) = ⊥

a-change : (c : Change) (answer : Answer) → IfDone IsChanged (Ok (decision.Change c answer))
a-change c answer = achieved {x = decision.Change c answer} tt

changes : (m : Machine) (at : Moment) (account : ℕ) (put : PutHead) → IfDone IsChanged (decide (rows_of m) at account (with_bytes put []))
changes m at account (head.Snapshot key index digest) = search (passed, after, a-change) depth 20
changes m at account (head.Volume key index digest) = search (passed, after, a-change) depth 20

pub both_ok : {B : Type 0} (x : Result (Unit {0}) Refusal) (y : Result B Refusal) (v : B) → (x >> y) ≡ Ok v → (x ≡ Ok tt) × (y ≡ Ok v)
both_ok (Ok u) y v e = (refl, e)
both_ok (Err r) y v e = absurd (cc)

pub bind_ok : {A B : Type 0} (x : Result A Refusal) (f : A → Result B Refusal) (v : B) → (x >>= f) ≡ Ok v → (d : A) × (x ≡ Ok d) × (f d ≡ Ok v)
bind_ok (Ok d) f v e = (d, refl, e)
bind_ok (Err r) f v e = absurd (cc)

pub tests_ok : (x y : Result (Unit {0}) Refusal) → Ok tt ≡ (x >> y) → (x ≡ Ok tt) × (y ≡ Ok tt)
tests_ok (Ok u) y e = (refl, sym e)
tests_ok (Err r) y e = absurd (cc)

first_err : {B : Type 0} (x y : Result (Unit {0}) Refusal) (z : Result B Refusal) (r : Refusal) → Err r ≡ (x >> y) → (x >> (y >> z)) ≡ Err r
first_err (Ok u) (Ok w) z r e = absurd (cc)
first_err (Ok u) (Err q) z r e = cc
first_err (Err q) y z r e = cc

module _ (m : Machine) (account : ℕ) where
  acts_on : (put : PutHead) (digest : List ℕ) → act same m account (with_bytes put digest) ≡ (refuse_digest same (with_bytes put digest) >> (decide (rows_of m) m.clock account (with_bytes put []) >>= finish same m (with_bytes put digest)))
  acts_on (head.Snapshot key index stated) digest = refl
  acts_on (head.Volume key index stated) digest = refl

  finishes : (put : PutHead) (digest : List ℕ) (change : Change) (answer : Answer)
      → finish same m (with_bytes put digest) (decision.Change change answer) ≡ (refuse_if (is_spent m) (Exhausted Changes) >> Ok (changed m digest change, answer))
  finishes (head.Snapshot key index stated) digest change answer = refl
  finishes (head.Volume key index stated) digest change answer = refl

  fits : (put : PutHead) → IsFit (with_bytes put [])
  fits (head.Snapshot key index stated) = tt
  fits (head.Volume key index stated) = tt

  brought : (put : PutHead) (digest : List ℕ) → bytes_of (with_digest digest (with_bytes put [])) ≡ digest
  brought (head.Snapshot key index stated) digest = refl
  brought (head.Volume key index stated) digest = refl

  module _ (put : PutHead) (digest : List ℕ) where
    abbrev Outcome : Type 0
    Outcome = Result (Machine × Answer) Refusal

    abbrev Tests : Type 0
    Tests = Result (Unit {0}) Refusal

    pub rules_tested : (f : Failure) → Agrees {A = Unit {0}} (Err f) (refuse_head put digest) → PutRules m account put digest (Err f)
    rules_tested (Refused r) e = ap (λ (x : Outcome). refuse_bad (bad_index (index_of put)) >> x) (acts_on put digest)
        ∙ first_err (refuse_bad (bad_index (index_of put))) (refuse_digest same (with_bytes put digest)) (decide (rows_of m) m.clock account (with_bytes put []) >>= finish same m (with_bytes put digest)) r e
    rules_tested Memory e = tt

    module _ (limits : refuse_bad (bad_index (index_of put)) ≡ Ok tt) (hashed : refuse_digest same (with_bytes put digest) ≡ Ok tt) where
      decided : act same m account (with_bytes put digest) ≡ (decide (rows_of m) m.clock account (with_bytes put []) >>= finish same m (with_bytes put digest))
      decided = acts_on put digest ∙ ap (λ (x : Tests). x >> (decide (rows_of m) m.clock account (with_bytes put []) >>= finish same m (with_bytes put digest))) hashed

      kept_is : kept_put m account put digest ≡ act same m account (with_bytes put digest)
      kept_is = ap (λ (x : Tests). x >> act same m account (with_bytes put digest)) limits

      done : (change : Change) (answer : Answer) (spent : Bool) → spent ≡ is_spent m → decide (rows_of m) m.clock account (with_bytes put []) ≡ Ok (decision.Change change answer)
          → act same m account (with_bytes put digest) ≡ (refuse_if spent (Exhausted Changes) >> Ok (changed m digest change, answer))
      done change answer spent is e = decided ∙ ap (λ (x : Result Decision Refusal). x >>= finish same m (with_bytes put digest)) e ∙ finishes put digest change answer
          ∙ ap (λ (b : Bool). refuse_if b (Exhausted Changes) >> Ok (changed m digest change, answer)) (sym is)

      pub rules_of : (d : Decision) (spent : Bool) → spent ≡ is_spent m → decide (rows_of m) m.clock account (with_bytes put []) ≡ Ok d → PutRules m account put digest (ruling_of d (Ok tt) spent)
      rules_of (decision.Change change answer) true is e = kept_is ∙ done change answer true is e
      rules_of (decision.Change change answer) false is e =
          let d = decides (rows_of m) m.clock account (with_bytes put []) digest (decision.Change change answer) (fits put) e in
          record {
            at = d.0;
            decided = d.1;
            brings = subst (Brings change.request digest) (brought put digest) d.2;
            unspent = sym is;
            gives = e;
            limits = limits;
            acts = done change answer false is e;
          }
      rules_of (decision.Kept answer) spent is e = absurd (of_done IsChanged (decision.Kept answer) _ e (changes m m.clock account put))
      rules_of (decision.View answer) spent is e = absurd (of_done IsChanged (decision.View answer) _ e (changes m m.clock account put))
      rules_of (decision.Read row) spent is e = absurd (of_done IsChanged (decision.Read row) _ e (changes m m.clock account put))

      pub rules_err : (f : Failure) → Agrees {A = Decision} (Err f) (decide (rows_of m) m.clock account (with_bytes put [])) → PutRules m account put digest (Err f)
      rules_err (Refused r) e = kept_is ∙ decided ∙ ap (λ (x : Result Decision Refusal). x >>= finish same m (with_bytes put digest)) (sym e)
      rules_err Memory e = tt

-- ---- its index is within an image's

pub found : (o : Option SnapRow) (r : Refusal) (test : SnapRow → Result (Unit {0}) Refusal) (next : SnapRow → Result Decision Refusal) (d : Decision)
    → ((some_or o r >>= λ row. test row >> Ok row) >>= next) ≡ Ok d → (row : SnapRow) × (o ≡ Some row) × (test row ≡ Ok tt) × (next row ≡ Ok d)
found None r test next d e = absurd (cc)
found (Some row) r test next d e = by (test row) refl e
  where
    by : (x : Result (Unit {0}) Refusal) → test row ≡ x → ((x >> Ok row) >>= next) ≡ Ok d → (kept : SnapRow) × (Some row ≡ Some kept) × (test kept ≡ Ok tt) × (next kept ≡ Ok d)
    by (Ok u) is e = (row, refl, is, e)
    by (Err q) is e = absurd (cc)

found_volume : (b : Bool) (o : Option VolRow) (r : Refusal) (next : VolRow → Result Decision Refusal) (d : Decision)
    → ((refuse_if b r >> some_or o r) >>= next) ≡ Ok d → (row : VolRow) × (o ≡ Some row) × (next row ≡ Ok d)
found_volume true o r next d e = absurd (cc)
found_volume false None r next d e = absurd (cc)
found_volume false (Some row) r next d e = (row, refl, e)

pub passes : (b : Bool) (r : Refusal) → refuse_if b r ≡ Ok tt → b ≡ false
passes true r e = absurd (cc)
passes false r e = refl

some_is : {A : Type 0} (x y : A) → Some x ≡ Some y → x ≡ y
some_is x y e = cc

-- a row that time has left is as good
pub good_of : (now : ℕ) (o : Option Snapshot) (left : Snapshot) → ((s : Snapshot) → o ≡ Some s → IsGoodRow s.row) → aged_row now o ≡ Some left → IsGoodRow left.row
good_of now None left good e = absurd (cc)
good_of now (Some s) left good e = at (stays now s.row) e
  where
    at : (b : Bool) → option_map (rested now) (cond b (Some s) None) ≡ Some left → IsGoodRow left.row
    at true e = let g = good s refl in let is : rested now s ≡ left = some_is _ _ e in record {
      size = ap (λ (r : Snapshot). is_size r.row.size) (sym is) ∙ g.size;
      timeout = λ pending. subst (λ (r : Snapshot). 1 ≤ r.row.timeout) is (g.timeout (ap (λ (r : Snapshot). r.row.completed) is ∙ pending));
    }
    at false e = absurd (cc)

with_row : (o : Option Snapshot) (row : SnapRow) → row_in o ≡ Some row → (s : Snapshot) × (o ≡ Some s) × (s.row ≡ row)
with_row None row e = absurd (cc)
with_row (Some s) row e = (s, refl, some_is s.row row e)

pub good_row : (m : Machine) (now : Moment) (row : SnapRow) (key : SnapKey) → AreGoodRows m.snaps → get (rows_of (advance m now)).snaps key ≡ Some row → IsGoodRow row
good_row m now row key good e =
    let w = with_row (aged_row now.second (get m.snaps key)) row (ap row_in (sym (get-aged now.second m.snaps key)) ∙ sym (get-row _ key) ∙ e) in
    subst IsGoodRow w.2 (good_of now.second (get m.snaps key) w.0 (good key) w.1)

decision_is : (c d : Decision) → ◌≡◌ {A = Result Decision Refusal} (Ok c) (Ok d) → c ≡ d
decision_is c d e = cc

-- the row that a put goes to
pub upload_of : (m : Machine) (at : Moment) (account : ℕ) (key : SnapKey) (index : ℕ) (stated : List ℕ) (d : Decision) → decide (rows_of m) at account (PutSnapshotBlock key index stated []) ≡ Ok d
    → (row : SnapRow) × (get (rows_of m).snaps key ≡ Some row) × (open_upload account key at.second row ≡ Ok tt) × (nat_le (blocks_of row.size) index ≡ false)
    × (decision.Change (alters account at (PutSnapshotBlock key index stated [])) (BlockWritten stated) ≡ d)
upload_of m at account key index stated d e =
    let f = found (get (rows_of m).snaps key) _ (open_upload account key at.second) _ d e in
    let both = both_ok (refuse_if (nat_le (blocks_of f.0.size) index) BadIndex) _ d f.3 in
    (f.0, f.1, f.2, passes _ BadIndex both.0, decision_is _ d both.1)

pub volume_of : (m : Machine) (at : Moment) (account : ℕ) (key : VolKey) (index : ℕ) (stated : List ℕ) (d : Decision) → decide (rows_of m) at account (WriteVolumeBlock key index stated []) ≡ Ok d
    → (row : VolRow) × (get m.vols key ≡ Some row) × (nat_le (blocks_of row.size) index ≡ false) × (decision.Change (alters account at (WriteVolumeBlock key index stated [])) (BlockWritten stated) ≡ d)
volume_of m at account key index stated d e =
    let f = found_volume _ (get m.vols key) _ _ d e in
    let both = both_ok (refuse_if (nat_le (blocks_of f.0.size) index) BadIndex) _ d f.2 in
    (f.0, f.1, passes _ BadIndex both.0, decision_is _ d both.1)

within : (size index : ℕ) → is_size size ≡ true → nat_le (blocks_of size) index ≡ false → is_index index ≡ true
within size index good e = at (nat_le size most_gib) refl
  where
    below : size ≤ 16384 → nat_le (2048 * size) index ≡ false → nat_lt index (2048 * 16384) ≡ true
    below least e = grind (arith, nat_tests, least, e)

    last : (a b : Bool) → (a && b) ≡ true → b ≡ true
    last true b e = e
    last false b e = absurd (cc)

    few : (n most : ℕ) → nat_le n most ≡ true → n ≤ most
    few n most e = grind (arith, nat_tests, e)

    at : (b : Bool) → nat_le size most_gib ≡ b → is_index index ≡ true
    at true is = below (few size most_gib is) e
    at false is = absurd (let full = last (nat_le 1 size) (nat_le size most_gib) good in cc)

pub is_small : (m : Machine) (now : Moment) (account : ℕ) (put : PutHead) (d : Decision) → IsBounded m put → decide (rows_of (advance m now)) now account (with_bytes put []) ≡ Ok d → is_index (index_of put) ≡ true
is_small m now account (head.Snapshot key index stated) d bounded e =
    let f = upload_of (advance m now) now account key index stated d e in within f.0.size index (good_row m now f.0 key bounded.1 f.1).size f.3
is_small m now account (head.Volume key index stated) d bounded e =
    let f = volume_of (advance m now) now account key index stated d e in within f.0.size index (bounded.1 f.0 f.1) f.2

pub few_indexes : (index : ℕ) → is_index index ≡ true → index < 2 ^ 25
few_indexes index e = below e
  where
    below : nat_lt index (2048 * 16384) ≡ true → index < 2 ^ 25
    below e = grind (arith, nat_tests, e)

-- ---- its record

and_true : (a b : Bool) → a ≡ true → b ≡ true → (a && b) ≡ true
and_true true true e f = refl
and_true true false e f = absurd (cc)
and_true false b e f = absurd (cc)

is_below : (n most : ℕ) → n < most → nat_lt n most ≡ true
is_below n most h = grind (arith, nat_tests, h)

is_at_most : (n most : ℕ) → n ≤ most → nat_le n most ≡ true
is_at_most n most h = grind (arith, nat_tests, h)

small_index : (index : ℕ) → is_index index ≡ true → index < 2 ^ 64
small_index index e = below e
  where
    below : nat_lt index (2048 * 16384) ≡ true → index < 2 ^ 64
    below e = grind (arith, nat_tests, e)

pub is_record : (m : Machine) (put : PutHead) (at : Moment) (account slot : ℕ) → IsBounded m put → IsDigest (stated_in put) → is_index (index_of put) ≡ true → slot < 2 ^ 43 → at.second ≤ 2 ^ 36 → account < 10 ^ 12
    → IsRecord (Accepted (put_at account at put slot []))
is_record m (head.Snapshot key index stated) at account slot bounded sized index_is few early small = record {
  spelled = ((omega (arith, early), small), record { given = _; is = refl; fit = (bounded.0, (small_index index index_is, (sized, omega (arith, few)))) });
  limits = and_true (is_moment at) _ (is_at_most at.second (2 ^ 36) early) (and_true (is_index index) (is_slot slot) index_is (is_below slot (2 ^ 43) few));
}
is_record m (head.Volume key index stated) at account slot bounded sized index_is few early small = record {
  spelled = ((omega (arith, early), small), record { given = _; is = refl; fit = (bounded.0, (small_index index index_is, (sized, omega (arith, few)))) });
  limits = and_true (is_moment at) _ (is_at_most at.second (2 ^ 36) early) (and_true (is_index index) (is_slot slot) index_is (is_below slot (2 ^ 43) few));
}
