-- What time takes and leaves, key by key.
use Rattle.std.proofs.Common.{◌≡◌, true, false, cond, not, Option, Some, None, sym, ap, ◌∙◌}
use Rattle.std.specs.Option.{option_map}
use Rattle.std.specs.FinMap as fin
use Rattle.ebs_model.specs.declared.keys.SnapKey.{SnapKey}
use Rattle.ebs_model.specs.declared.keys.Moment.{Moment}
use Rattle.ebs_model.specs.Time.{Snapshot, status_at, is_failed, is_reached, rested}
use Rattle.ebs_model.specs.Machine.{Machine, advance}
use Rattle.ebs_model.proofs.Aged.{aged_row, aged_row-same, get-aged, found-rested}

module _ (m : Machine) (now : Moment) (key : SnapKey) where
  pub time-none : fin.get m.snaps key ≡ None → fin.get (advance m now).snaps key ≡ None
  time-none is = get-aged now.second m.snaps key ∙ ap (aged_row now.second) is

  module _ (s : Snapshot) where
    pub time-failed : fin.get (advance m now).snaps key ≡ Some s → is_failed (status_at s.row now.second) ≡ true → (s.array ≡ fin.empty) × (s.row.put ≡ fin.empty)
    time-failed e fails = kept (fin.get m.snaps key) (sym (get-aged now.second m.snaps key) ∙ e)
      where
        kept : (o : Option Snapshot) → aged_row now.second o ≡ Some s → (s.array ≡ fin.empty) × (s.row.put ≡ fin.empty)
        kept None e = cc
        kept (Some old) e =
            let rests = found-rested now.second old s e in
            let failed = ap (λ (s : Snapshot). is_failed (status_at s.row now.second)) rests ∙ fails in (
              ap (λ (s : Snapshot). s.array) (sym rests) ∙ ap (λ b. cond b fin.empty old.array) failed,
              ap (λ (s : Snapshot). s.row.put) (sym rests) ∙ ap (λ b. cond b fin.empty old.row.put) failed,
            )

    pub time-gone : fin.get m.snaps key ≡ Some s → is_reached s.row.bin_end now.second ≡ true → fin.get (advance m now).snaps key ≡ None
    time-gone is reached = get-aged now.second m.snaps key ∙ ap (aged_row now.second) is ∙ ap (λ b. option_map (rested now.second) (cond (not b) (Some s) None)) reached

    pub time-left : fin.get m.snaps key ≡ Some s → is_reached s.row.bin_end now.second ≡ false → is_failed (status_at s.row now.second) ≡ false → fin.get (advance m now).snaps key ≡ Some s
    time-left is ahead stands = get-aged now.second m.snaps key ∙ ap (aged_row now.second) is ∙ aged_row-same now.second s (ap not ahead) stands
