use Rattle.ebs_members.proofs.ReaderLaws.{other_pair, first_pair}
use Rattle.ebs_members.proofs.laws.query_laws.Goals as goal

pub returns : goal.returns
returns c = record { other = other_pair; first = first_pair }
