use Rattle.std.proofs.Common.{length, arith, ap}
use Rattle.ebs_tokens.proofs.Texts.{length-block_text, length-page_text}
use Rattle.ebs_tokens.proofs.Pages.{lists_apart}
use Rattle.ebs_tokens.proofs.laws.kinds_apart.Goals as goal

pub returns-clause-block : goal.returns-clause-block
returns-clause-block c secret other key first second index expiry from end changed same =
    omega (arith, ap length same, length-block_text secret key index expiry, length-page_text other changed first second from end)

pub returns-clause-list : goal.returns-clause-list
returns-clause-list c = lists_apart
