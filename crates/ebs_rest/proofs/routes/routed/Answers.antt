use Rattle.ebs_rest.proofs.Router.{fits_empty, built_rows}
use Rattle.ebs_rest.proofs.routes.routed.Goals as goal

pub add_all-requires : goal.add_all-requires
add_all-requires c = fits_empty _ c.new-router.ensures

pub returns : goal.returns
returns c = built_rows _ _ c.new-router.ensures c.in_ok-add_all.ensures
