use Rattle.ebs_laws.proofs.Holds.{holds-turn, holds-run}
use Rattle.ebs_laws.proofs.puts.run_keeps_block.Goals as goal

pub returns-clause-each_call : goal.returns-clause-each_call
returns-clause-each_call c = λ m t key index block. holds-turn key index block m t

pub returns-clause-run : goal.returns-clause-run
returns-clause-run c = λ m turns account reading key index digest bytes stated. holds-run key index bytes m turns account reading digest stated
