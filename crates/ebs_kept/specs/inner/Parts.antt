-- A store that is made of its parts.
use Rattle.std.specs.Prelude.{◌≡◌, ℕ, List, false}
use Rattle.std.specs.declared.alloc.Global.{Global}
use Rattle.ebs_model.specs.declared.keys.Moment.{Moment}
use Rattle.ebs_model.specs.Machine.{Machine, aged_rows, with_arrays}
use Rattle.ebs_model.specs.Rows.{Rows}
use Rattle.ebs_holds.specs.Holds.{Holding}
use Rattle.ebs_catalog.specs.Held.{Held}
use Rattle.ebs_kept.specs.inner.Shown.{shown, snap_array, disk_array, with_disks}

-- the machine that is shown of these, before anything that time has ended is given up
abbrev pub machine_by : Global → List ℕ → Moment → ℕ → ℕ → Held → Holding → Machine
machine_by alloc secret clock changes stamps catalog holding = shown (record {
  alloc = alloc;
  secret = secret;
  clock = clock;
  changes = changes;
  stamps = stamps;
  catalog = catalog;
  holdings = holding;
  is_settled = false;
})

-- the machine has these rows and arrays, but for what time has ended at its clock
pub record Shows (m : Machine) (rows : Rows) (h : Holding) : Type 0 where
  pub snaps : m.snaps ≡ aged_rows m.clock.second (with_arrays rows.snaps (snap_array h))
  pub own : m.own ≡ rows.own
  pub tokens : m.tokens ≡ rows.tokens
  pub vols : m.vols ≡ rows.vols
  pub disks : m.disks ≡ with_disks rows.vols (disk_array h)
  pub books : m.books ≡ rows.books
  pub policies : m.policies ≡ rows.policies
