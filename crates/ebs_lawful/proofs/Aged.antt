-- What time leaves of rows is within the same limits.
use Rattle.std.proofs.Common.{◌≡◌, ℕ, ◌+◌, ◌*◌, ◌<◌, ◌≤◌, arith, Bool, true, false, cond, ◌&&◌, nat_le, Option, Some, None, refl, sym, ap, subst, ◌∙◌}
use Rattle.std.proofs.lemmas.Bool.Decides.{nat_tests}
use Rattle.std.specs.Option.{option_map}
use Rattle.std.specs.Ordering.{nat_cmp}
use Rattle.std.specs.List.{count_by}
use Rattle.std.specs.FinMap.{FinMap, get, empty, entries, get-empty}
use Rattle.ebs_model.specs.declared.keys.SnapKey.{SnapKey}
use Rattle.ebs_model.specs.declared.rows.SnapRow.{SnapRow}
use Rattle.ebs_model.specs.Keys.{snap_cmp}
use Rattle.ebs_model.specs.inner.Orders.{snaps_total, exact_snaps}
use Rattle.ebs_model.specs.inner.Rows.{aged, aged_snaps}
use Rattle.ebs_model.specs.Time.{stays, rested_row, status_at, status_by, is_failed, is_pending}
use Rattle.ebs_model.specs.Access.{owns}
use Rattle.ebs_model.specs.Quotas.{blocks_of}
use Rattle.ebs_model.specs.Rows.{Rows, own_of}
use Rattle.ebs_model.proofs.RowLaws.{get-aged_snaps, left_row}
use Rattle.ebs_lawful.specs.Snapshots.{IsSnapRow, AreSnapRows}
use Rattle.ebs_lawful.specs.Owners.{IsOwnSnap, AreOwn}
use Rattle.ebs_lawful.specs.Quotas.{AreInQuotas}
use Rattle.ebs_lawful.proofs.Maps.{Each, some_is, none_some, both_of}
use Rattle.ebs_lawful.proofs.Tallies.{no_more, weaker}
use Rattle.ebs_lawful.proofs.QuotaRows.{with-fewer, is_open}

module _ (now : ℕ) (snaps : FinMap snap_cmp SnapRow) where
  -- what time leaves was there, and rests
  was-there : (q : SnapKey) (x : SnapRow) → get (aged_snaps now snaps) q ≡ Some x → (y : SnapRow) × (get snaps q ≡ Some y) × (rested_row now y ≡ x)
  was-there q x e = at (get snaps q) refl (sym (get-aged_snaps now snaps q) ∙ e)
    where
      by : (y : SnapRow) (b : Bool) → get snaps q ≡ Some y → option_map (rested_row now) (cond b (Some y) None) ≡ Some x → (y : SnapRow) × (get snaps q ≡ Some y) × (rested_row now y ≡ x)
      by y true is e = (y, is, some_is (rested_row now y) x e)
      by y false is e = none_some e

      at : (o : Option SnapRow) → get snaps q ≡ o → left_row now o ≡ Some x → (y : SnapRow) × (get snaps q ≡ Some y) × (rested_row now y ≡ x)
      at None is e = none_some e
      at (Some y) is e = by y (stays now y) is e

  each-aged : (P : SnapKey → SnapRow → Type 0) → ((q : SnapKey) (y : SnapRow) → P q y → P q (rested_row now y)) → Each P snaps → Each P (aged_snaps now snaps)
  each-aged P rests each q x e = let was = was-there q x e in subst (P q) was.2 (rests q was.0 (each q was.0 was.1))

rested-fits : (now : ℕ) (key : SnapKey) (row : SnapRow) → IsSnapRow key row → IsSnapRow key (rested_row now row)
rested-fits now key row h = record {
  place = h.place;
  size = h.size;
  start = h.start;
  last = h.last;
  timeout = h.timeout;
  description = h.description;
  tags = h.tags;
  shared = h.shared;
  lock = h.lock;
  tier = h.tier;
  bin_end = h.bin_end;
  put = λ i e. put_by (is_failed (status_at row now)) i e;
  upload = λ e. let was = h.upload e in record { volume = was.volume; bin_end = was.bin_end; tier = was.tier };
  completed = λ e. done_by (is_failed (status_at row now)) e;
}
  where
    put_by : (b : Bool) (i : ℕ) → get (cond b empty row.put) i ≡ Some tt → i < blocks_of row.size
    put_by true i e = none_some (sym (get-empty {X = Unit {0}} nat_cmp i) ∙ e)
    put_by false i e = h.put i e

    done_by : (b : Bool) → row.completed ≡ true → cond b empty row.put ≡ empty
    done_by true e = refl
    done_by false e = h.completed e

pub snaps-aged : (now : ℕ) (rows : Rows) → AreSnapRows rows → AreSnapRows (aged now rows)
snaps-aged now rows snaps = each-aged now rows.snaps IsSnapRow (λ q y h. rested-fits now q y h) snaps

pub own-aged : (now : ℕ) (rows : Rows) → AreOwn rows → AreOwn (aged now rows)
own-aged now rows own = record {
  own = own.own;
  vols = own.vols;
  policies = own.policies;
  tokens = own.tokens;
  snaps = each-aged now rows.snaps (λ (k : SnapKey) (r : SnapRow). IsOwnSnap (own_of rows k.account) k r) (λ q y h. record { made = h.made; volume = h.volume; policy = h.policy }) own.snaps;
}

-- what is open at a later moment was open before
open-before : (completed : Bool) (end now later : ℕ) → now ≤ later → is_pending (status_by completed (nat_le end later)) ≡ true → is_pending (status_by completed (nat_le end now)) ≡ true
open-before true end now later h e = absurd (never e)
  where
    never : false ≡ true → ⊥
    never e = cc
open-before false end now later h e = by (nat_le end later) (nat_le end now) refl refl e
  where
    by : (a b : Bool) → nat_le end later ≡ a → nat_le end now ≡ b → is_pending (status_by false a) ≡ true → is_pending (status_by false b) ≡ true
    by true b s t e = absurd (never e)
      where
        never : false ≡ true → ⊥
        never e = cc
    by false true s t e = absurd (wrong s t)
      where
        wrong : nat_le end later ≡ false → nat_le end now ≡ true → ⊥
        wrong s t = grind (arith, nat_tests)
    by false false s t e = refl

pub quotas-aged : (now later : ℕ) (rows : Rows) → now ≤ later → AreInQuotas rows now → AreInQuotas (aged later rows) later
quotas-aged now later rows h quotas account =
    let still : count_by (is_open account later) (entries (aged_snaps later rows.snaps)) ≤ count_by (is_open account later) (entries rows.snaps) =
    no_more snaps_total exact_snaps (is_open account later) (aged_snaps later rows.snaps) rows.snaps (λ q x e passes.
    let two = both_of (owns account q) (is_pending (status_at x later)) passes in
    let was = was-there later rows.snaps q x e in
    (was.0, was.1, (λ i. two.0 i && (ap (λ (r : SnapRow). is_pending (status_at r later)) was.2 ∙ two.1) i))) in
    let before : count_by (is_open account later) (entries rows.snaps) ≤ count_by (is_open account now) (entries rows.snaps) =
    weaker (is_open account later) (is_open account now) (λ e passes.
    let two = both_of (owns account e.0) (is_pending (status_at e.1 later)) passes in
    (λ i. two.0 i && open-before e.1.completed (e.1.last.second + 60 * e.1.timeout) now later h two.1 i)) (entries rows.snaps) in
    with-fewer rows now later (aged_snaps later rows.snaps) account (λ q x e mine. let was = was-there later rows.snaps q x e in (was.0, was.1)) (omega (arith, still, before)) (quotas account)
