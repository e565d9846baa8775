use Rattle.ebs_members.proofs.ReaderLaws.{any_case, other_field, first_field}
use Rattle.ebs_members.proofs.laws.field_laws.Goals as goal

pub returns : goal.returns
returns c = record { any_case = any_case; other = other_field; first = first_field }
