use Rattle.ebs_laws.proofs.PageJoins.{blocks-join, any-blocks-join, changes-join, any-changes-join}
use Rattle.ebs_laws.proofs.Between.{between-join}
use Rattle.ebs_laws.proofs.lists.pages_join_by_tokens.Goals as goal

pub returns-clause-blocks : goal.returns-clause-blocks
returns-clause-blocks c = blocks-join

pub returns-clause-any_blocks : goal.returns-clause-any_blocks
returns-clause-any_blocks c = any-blocks-join

pub returns-clause-changes : goal.returns-clause-changes
returns-clause-changes c = changes-join

pub returns-clause-any_changes : goal.returns-clause-any_changes
returns-clause-any_changes c = any-changes-join

pub returns-clause-between : goal.returns-clause-between
returns-clause-between c = between-join
