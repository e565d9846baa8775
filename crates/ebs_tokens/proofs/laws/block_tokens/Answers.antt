use Rattle.ebs_tokens.proofs.Texts.{length-block_text}
use Rattle.ebs_tokens.proofs.Blocks.{block_token-good, one_block}
use Rattle.ebs_tokens.proofs.laws.block_tokens.Goals as goal

pub returns-clause-good : goal.returns-clause-good
returns-clause-good c = block_token-good

pub returns-clause-one : goal.returns-clause-one
returns-clause-one c = one_block

pub returns-clause-digits : goal.returns-clause-digits
returns-clause-digits c = length-block_text
