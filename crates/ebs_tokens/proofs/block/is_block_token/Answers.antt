use Rattle.std.proofs.Common.{sym}
use Rattle.ebs_tokens.proofs.Blocks.{no_block_token}
use Rattle.ebs_tokens.proofs.block.is_block_token.Goals as goal

pub returns-in_default : goal.returns-in_default
returns-in_default c =
    sym (no_block_token c.args.secret.now c.args.key.now c.args.index c.args.now.second c.args.text.now c.in_default.ensures.none)
