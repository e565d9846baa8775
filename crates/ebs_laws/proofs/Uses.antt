-- Whether a start or a creation repeats an earlier one.
use Rattle.std.proofs.Common.{◌≡◌, ℕ, true, false, List, Option, Some, None, is_some, sym, ap, ◌∙◌, refl}
use Rattle.ebs_model.specs.declared.keys.SnapKey.{SnapKey}
use Rattle.ebs_model.specs.declared.keys.Moment.{Moment}
use Rattle.ebs_model.specs.declared.rows.TokenRow.{TokenRow}
use Rattle.ebs_model.specs.declared.tags.Tag.{Tag}
use Rattle.ebs_model.specs.declared.request.Request.{Request}
use Rattle.ebs_model.specs.declared.request.Request.TheVariants.{StartSnapshot, CreateVolume}
use Rattle.ebs_model.specs.Machine.{Machine, advance}
use Rattle.ebs_laws.specs.Words.{use_of, IsUnused, is_repeat}

-- time takes no client token
pub use-aged : (m : Machine) (now : Moment) (account : ℕ) (token : Option (List ℕ)) → use_of (advance m now) account token ≡ use_of m account token
use-aged m now account None = refl
use-aged m now account (Some text) = refl

pub repeat-aged : (m : Machine) (now : Moment) (account : ℕ) (request : Request) → is_repeat (advance m now) account request ≡ is_repeat m account request
repeat-aged m now account (StartSnapshot size parent text tags token timeout) = ap is_some (use-aged m now account token)
repeat-aged m now account (CreateVolume origin size tags token) = ap is_some (use-aged m now account token)
repeat-aged m now account request = refl

none_some : {row : TokenRow} → None ≡ Some row → ⊥
none_some e = cc

pub unused-aged : (m : Machine) (now : Moment) (account : ℕ) (token : Option (List ℕ)) → IsUnused m account token → IsUnused (advance m now) account token
unused-aged m now account token unused = use-aged m now account token ∙ unused

pub unused-clash : (m : Machine) (account : ℕ) (token : Option (List ℕ)) (row : TokenRow) → IsUnused m account token → use_of m account token ≡ Some row → ⊥
unused-clash m account token row unused used = none_some (sym unused ∙ used)

-- of an unused token there is no use later on, but for calls
pub unused-later : (m : Machine) (now : Moment) (account : ℕ) (token : Option (List ℕ)) (row : TokenRow) → IsUnused m account token → use_of (advance m now) account token ≡ Some row → ⊥
unused-later m now account token row unused = unused-clash (advance m now) account token row (unused-aged m now account token unused)

true_false : true ≡ false → ⊥
true_false e = cc

pub none-used : (m : Machine) (account : ℕ) (token : Option (List ℕ)) → is_some (use_of m account token) ≡ false → IsUnused m account token
none-used m account token fresh = by (use_of m account token) refl fresh
  where
    by : (o : Option TokenRow) → use_of m account token ≡ o → is_some o ≡ false → use_of m account token ≡ None
    by None e fresh = e
    by (Some row) e fresh = absurd (true_false fresh)

pub fresh-unused : (m : Machine) (account size : ℕ) (parent : Option SnapKey) (text : Option (List ℕ)) (tags : List Tag) (token : Option (List ℕ)) (timeout : ℕ) → is_repeat m account (StartSnapshot size parent text tags token timeout) ≡ false → IsUnused m account token
fresh-unused m account size parent text tags token timeout fresh = none-used m account token fresh

pub unused-fresh : (m : Machine) (account size : ℕ) (parent : Option SnapKey) (text : Option (List ℕ)) (tags : List Tag) (token : Option (List ℕ)) (timeout : ℕ) → IsUnused m account token → is_repeat m account (StartSnapshot size parent text tags token timeout) ≡ false
unused-fresh m account size parent text tags token timeout unused = ap is_some unused
