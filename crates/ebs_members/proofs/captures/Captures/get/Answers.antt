use Rattle.ebs_members.proofs.Paths.{found_text}
use Rattle.ebs_members.proofs.captures.Captures.get.Goals as goal

pub returns : goal.returns
returns c = found_text c.args.name.now _ c.get.result _ c.get.ensures c.args.self.now.texts (c.args.self.now.by_name c.args.name.now)
