use Rattle.ebs_laws.proofs.KeptTokens.{start-keeps, tokens-stay, only-starts, refused-uses}
use Rattle.ebs_laws.proofs.client_tokens.tokens_are_kept.Goals as goal

pub returns-clause-kept : goal.returns-clause-kept
returns-clause-kept c = start-keeps

pub returns-clause-stays : goal.returns-clause-stays
returns-clause-stays c = tokens-stay

pub returns-clause-only : goal.returns-clause-only
returns-clause-only c = only-starts

pub returns-clause-refused : goal.returns-clause-refused
returns-clause-refused c = refused-uses
