-- Rows that a moment leaves, one after another.
use Rattle.std.proofs.Common.{◌≡◌, ℕ, true, false, cond, List, [], ◌∷◌, ◌++◌, map, refl, sym, ap, subst, ◌∙◌, append-nil}
use Rattle.std.specs.List.{filter}
use Rattle.ebs_model.specs.declared.keys.SnapKey.{SnapKey}
use Rattle.ebs_model.specs.declared.rows.SnapRow.{SnapRow}
use Rattle.ebs_model.specs.Time.{rested_row, stays}
use Rattle.ebs_checkpoints.specs.declared.snapshots.SnapPoint.{SnapPoint}
use Rattle.ebs_catalog.specs.declared.rows.KeptRow.{KeptRow}
use Rattle.ebs_catalog.specs.Held.{whole}
use Rattle.ebs_recovery.specs.Bases.{row_of}
use Rattle.ebs_pointed.specs.Snapshots.{left_at, listed_row}
use Rattle.ebs_pointed.specs.Placed.{HaveKeys}
use Rattle.ebs_pointed.proofs.Listing.{one_listed}

-- what is written, and what is left of all
pub record IsAging (now : ℕ) (points : List SnapPoint) (left all : List (SnapKey × KeptRow)) : Type 0 where
  pub listed : map listed_row points ++ left_at now left ≡ left_at now all
  pub keys : HaveKeys (λ (kept : KeptRow). kept.row.key) left

pub none_aged : (now : ℕ) (points : List SnapPoint) (left all : List (SnapKey × KeptRow)) → points ≡ [] → left ≡ all → HaveKeys (λ (kept : KeptRow). kept.row.key) all → IsAging now points left all
none_aged now points left all none is keys = record {
  listed = ap (λ ps. map listed_row ps ++ left_at now left) none ∙ ap (left_at now) is;
  keys = subst (HaveKeys (λ (kept : KeptRow). kept.row.key)) (sym is) keys;
}

module _ (now : ℕ) {k : SnapKey} (kept : KeptRow) (left rest all : List (SnapKey × KeptRow)) (steps : left ≡ (k, kept) ∷ rest) where
  -- a row that stays
  pub one_aged : (old new : List SnapPoint) (p : SnapPoint) → stays now kept.row ≡ true → new ≡ old ++ p ∷ [] → row_of p ≡ rested_row now (whole kept) → IsAging now old left all → IsAging now new rest all
  one_aged old new p test more is before =
      let keys = subst (HaveKeys (λ (kept : KeptRow). kept.row.key)) steps before.keys in
      let e : SnapKey × SnapRow = (k, rested_row now (whole kept)) in
      record {
        listed = one_listed listed_row old new p {e = e} (e ∷ left_at now rest) (left_at now rest) (left_at now all) more refl
            (λ i. ((ap (λ (r : SnapRow). r.key) is ∙ keys.0) i, is i))
            (ap (λ b. map listed_row old ++ map {B = SnapKey × SnapRow} (λ e. (e.0, rested_row now e.1)) (cond b ((k, whole kept) ∷ filter (λ e. stays now e.1) (map {B = SnapKey × SnapRow} (λ e. (e.0, whole e.1)) rest)) (filter (λ e. stays now e.1) (map {B = SnapKey × SnapRow} (λ e. (e.0, whole e.1)) rest)))) (sym test)
            ∙ ap (λ es. map listed_row old ++ left_at now es) (sym steps) ∙ before.listed);
        keys = keys.1;
      }

  -- and one that time has ended
  pub one_ended : (points : List SnapPoint) → stays now kept.row ≡ false → IsAging now points left all → IsAging now points rest all
  one_ended points test before = record {
    listed =
        ap (λ b. map listed_row points ++ map {B = SnapKey × SnapRow} (λ e. (e.0, rested_row now e.1)) (cond b ((k, whole kept) ∷ filter (λ e. stays now e.1) (map {B = SnapKey × SnapRow} (λ e. (e.0, whole e.1)) rest)) (filter (λ e. stays now e.1) (map {B = SnapKey × SnapRow} (λ e. (e.0, whole e.1)) rest)))) (sym test)
        ∙ ap (λ es. map listed_row points ++ left_at now es) (sym steps) ∙ before.listed;
    keys = (subst (HaveKeys (λ (kept : KeptRow). kept.row.key)) steps before.keys).1;
  }

pub all_aged : (now : ℕ) (points : List SnapPoint) (left all : List (SnapKey × KeptRow)) → left ≡ [] → IsAging now points left all → left_at now all ≡ map listed_row points
all_aged now points left all none h = sym h.listed ∙ ap (λ es. map listed_row points ++ left_at now es) none ∙ append-nil (map listed_row points)
