use Rattle.std.proofs.Common.{◌&&◌, ◌∙◌}
use Rattle.std.specs.List.{list_all}
use Rattle.ebs_node_rules.specs.Arrays.{arrays_of, fits_array, volume_fits}
use Rattle.ebs_node_rules.proofs.Tops.{volumes_within}
use Rattle.ebs_node_rules.proofs.arrays.arrays_fit.Goals as goal

pub returns : goal.returns
returns c =
    let nodes = c.as_slice-nodes.ensures in
    let snapshots = c.as_slice-snapshots.ensures in
    let volumes = c.as_slice.ensures in
    c.rows_fit.ensures
    ∙ (λ i. list_all (fits_array c.as_slice-nodes.result.now (arrays_of c.as_slice-nodes.result.now)) c.as_slice-snapshots.result.now && volumes_within c.in_ok-tops.tops (arrays_of c.as_slice-nodes.result.now) c.in_ok-tops.ensures c.as_slice.result.now i)
    ∙ (λ i. list_all (fits_array (nodes i) (arrays_of (nodes i))) (snapshots i) && list_all (volume_fits (arrays_of (nodes i))) (volumes i))
