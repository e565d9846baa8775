-- What becomes of a request: a change of the rows, an answer, or a reading of blocks.
use Rattle.std.specs.Prelude.{ℕ, List, [], ◌∷◌, Option, None, Some}
use Rattle.ebs_model.specs.declared.keys.SnapKey.{SnapKey}
use Rattle.ebs_model.specs.declared.keys.VolKey.{VolKey}
use Rattle.ebs_model.specs.declared.keys.Moment.{Moment}
use Rattle.ebs_model.specs.declared.keys.AnyKey.{AnyKey}
use Rattle.ebs_model.specs.declared.keys.AnyKey.TheVariants.{Snap, Vol, Rule, Policy}
use Rattle.ebs_model.specs.declared.request.Request.{Request}
use Rattle.ebs_model.specs.declared.change.Change.{Change}

-- a change that makes these and ends nothing
abbrev pub makes : ℕ → Moment → Request → List AnyKey → Change
makes account at request made = record { account = account; at = at; request = request; made = made; sources = []; ended = []; released = []; shared = [] }

-- a change that makes nothing and ends nothing
abbrev pub alters : ℕ → Moment → Request → Change
alters account at request = makes account at request []

-- a change that takes a snapshot out
abbrev pub ends : ℕ → Moment → Request → SnapKey → Change
ends account at request key = record (alters account at request) { ended = Snap key ∷ [] }

-- a change that leaves a snapshot shared with these accounts
abbrev pub shares : ℕ → Moment → Request → List ℕ → Change
shares account at request shared = record (alters account at request) { shared = shared }

-- the first snapshot that is made
abbrev pub made_snap : List AnyKey → Option SnapKey
made_snap [] = None
made_snap (Snap key ∷ made) = Some key
made_snap (Vol key ∷ made) = None
made_snap (Rule key ∷ made) = None
made_snap (Policy key ∷ made) = None

-- the first volume that is made
abbrev pub made_vol : List AnyKey → Option VolKey
made_vol [] = None
made_vol (Snap key ∷ made) = None
made_vol (Vol key ∷ made) = Some key
made_vol (Rule key ∷ made) = None
made_vol (Policy key ∷ made) = None
