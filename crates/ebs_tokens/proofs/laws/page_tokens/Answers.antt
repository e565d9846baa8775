use Rattle.ebs_tokens.proofs.Texts.{length-page_text}
use Rattle.ebs_tokens.proofs.Pages.{page_token-good, one_page}
use Rattle.ebs_tokens.proofs.laws.page_tokens.Goals as goal

pub returns-clause-good : goal.returns-clause-good
returns-clause-good c = page_token-good

pub returns-clause-one : goal.returns-clause-one
returns-clause-one c = one_page

pub returns-clause-digits : goal.returns-clause-digits
returns-clause-digits c = length-page_text
