-- What the first 65536 bytes say of the head there.
use Rattle.std.specs.Prelude.{ℕ, ◌<◌, List, length, drop, ◌≤◌}
use Rattle.httparse.specs.Grammar.{HasNoRequest, MayBecomeRequest, HasNoSection, MayBecomeSection, RequestHead}
use Rattle.httparse.specs.Spans.{IsRequestAt, IsRequestWithin}
use Rattle.httparse.specs.declared.spans.HeaderSpan.{HeaderSpan}
use Rattle.ebs_http.specs.Messages.{Stands}
use Rattle.ebs_http.specs.declared.message.BadKind.TheVariants.{BadHead}
use Rattle.ebs_http.specs.declared.parse.Parse.{Parse}
use Rattle.ebs_http.specs.declared.parse.Parse.TheVariants.{Whole, Partial, Bad, TooLong}

-- fewer than 65536 bytes in which no head is whole, and more can make it so or the target is still being read
pub record IsPartial (bytes : List ℕ) : Type 0 where
  pub none : HasNoRequest bytes
  pub short : length bytes < 65536
  pub may : MayBecomeRequest bytes

-- the same of the field lines behind the first n bytes
pub record IsOpenAfter (bytes : List ℕ) (n : ℕ) : Type 0 where
  pub none : HasNoSection (drop n bytes)
  pub short : length bytes < 65536
  pub may : MayBecomeSection (drop n bytes)

abbrev pub IsParse : List ℕ → List HeaderSpan → Parse → Type 0
IsParse front fields (Whole spans) =
    IsRequestWithin front fields spans
    × ((head : RequestHead) × IsRequestAt front fields spans head × (length head.fields ≤ 64))
IsParse front fields Partial = IsPartial front
IsParse front fields Bad = Stands BadHead front
IsParse front fields TooLong = (65536 ≤ length front) × HasNoRequest front
