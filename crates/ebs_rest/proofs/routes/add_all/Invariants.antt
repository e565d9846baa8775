use Rattle.std.proofs.Common.{◌≡◌, true, drop}
use Rattle.std.specs.Prelude.{fold}
use Rattle.ebs_rest.specs.inner.Router.{rows_of, all_fit}
use Rattle.ebs_rest.specs.CallOf.{with_path}
use Rattle.ebs_rest.proofs.routes.add_all.Given as goal

abbrev pub invariant-loop-row : goal.invariant-loop-row
invariant-loop-row l = record {
  fit : all_fit l.router (rows_of (drop l.row-index l.rows)) ≡ true;
  built : fold with_path l.router (rows_of (drop l.row-index l.rows)) ≡ fold with_path l.initial.router (rows_of l.rows);
}
