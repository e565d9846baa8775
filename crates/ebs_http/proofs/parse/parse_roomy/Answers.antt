use Rattle.std.proofs.Common.{inl, ap, Err}
use Rattle.ebs_http.proofs.FieldCounts.{fits_room}
use Rattle.ebs_http.proofs.parse.parse_roomy.Goals as goal

pub returns-in-Err : goal.returns-in-Err
returns-in-Err c =
    inl (c.in-Err.ensures.invalid (λ e. fits_room _ _ c.requires.room (c.in-Err.ensures.too_many (ap Err e))))
