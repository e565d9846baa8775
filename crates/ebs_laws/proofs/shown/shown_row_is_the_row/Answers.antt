use Rattle.ebs_laws.proofs.Views.{shown-row, known-shown, hidden-absent}
use Rattle.ebs_laws.proofs.shown.shown_row_is_the_row.Goals as goal

pub returns-clause-shows : goal.returns-clause-shows
returns-clause-shows c = shown-row

pub returns-clause-known : goal.returns-clause-known
returns-clause-known c = known-shown

pub returns-clause-hidden : goal.returns-clause-hidden
returns-clause-hidden c = hidden-absent
