use Rattle.ebs_rest.proofs.routes.request_of.Goals as goal

pub returns-in-ListSnapshotBlocks-clause-value : goal.returns-in-ListSnapshotBlocks-clause-value
returns-in-ListSnapshotBlocks-clause-value c =
    rw c.in-ListSnapshotBlocks.is (rw (c.path_and_query.ensures.query, c.as_slice.ensures) at c.list_blocks.ensures.value)

pub returns-in-GetSnapshotBlock-clause-value : goal.returns-in-GetSnapshotBlock-clause-value
returns-in-GetSnapshotBlock-clause-value c =
    rw c.in-GetSnapshotBlock.is (rw (c.path_and_query.ensures.query, c.as_slice.ensures) at c.get_block.ensures.value)

pub returns-in-ListChangedBlocks-clause-value : goal.returns-in-ListChangedBlocks-clause-value
returns-in-ListChangedBlocks-clause-value c =
    rw c.in-ListChangedBlocks.is (rw (c.path_and_query.ensures.query, c.as_slice.ensures) at c.list_changed.ensures.value)

pub returns-in-DescribeSnapshots-clause-value : goal.returns-in-DescribeSnapshots-clause-value
returns-in-DescribeSnapshots-clause-value c =
    rw c.in-DescribeSnapshots.is (rw (c.path_and_query.ensures.query, c.as_slice.ensures) at c.describe_all.ensures.value)

pub returns-in-ListBin-clause-value : goal.returns-in-ListBin-clause-value
returns-in-ListBin-clause-value c =
    rw c.in-ListBin.is (rw (c.path_and_query.ensures.query, c.as_slice.ensures) at c.list_bin.ensures.value)
