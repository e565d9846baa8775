use Rattle.ebs_http.proofs.MessageLemmas.{splits_unique}
use Rattle.ebs_http.proofs.laws.one_split.Goals as goal

pub returns : goal.returns
returns c stream rest last ms ns = splits_unique stream ms ns rest last
