use Rattle.ebs_laws.proofs.OwnRows.{own-list}
use Rattle.ebs_laws.proofs.OwnPages.{own-pages-join}
use Rattle.ebs_laws.proofs.shown.list_has_own_rows.Goals as goal

pub returns-clause-page : goal.returns-clause-page
returns-clause-page c = own-list

pub returns-clause-join : goal.returns-clause-join
returns-clause-join c = own-pages-join
