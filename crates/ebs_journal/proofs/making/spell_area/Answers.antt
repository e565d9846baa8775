use Rattle.std.proofs.Common.{◌∷◌, ◌++◌, [], length, refl}
use Rattle.std.specs.Int.{w32, w64, to_be_bytes}
use Rattle.ebs_journal.specs.Format.{magic, head_of}
use Rattle.ebs_journal.proofs.Made.{extended}
use Rattle.ebs_journal.proofs.making.spell_area.Goals as goal

pub returns : goal.returns
unfolding head_of
returns c =
    let one = extended [] (0 ∷ []) c.new-bytes.ensures.items c.in_ok-push.ensures.items refl in
    let two = extended (0 ∷ []) magic one c.in_ok-extend_from_slice.ensures.items refl in
    let three = extended ((0 ∷ []) ++ magic) (to_be_bytes w32 1) two c.in_ok-extend_from_slice-2.ensures.items c.to_be_bytes.ensures in
    let four = extended (((0 ∷ []) ++ magic) ++ to_be_bytes w32 1) (to_be_bytes w64 c.args.epoch) three c.in_ok-extend_from_slice-3.ensures.items c.to_be_bytes-2.ensures in
    let five = extended ((((0 ∷ []) ++ magic) ++ to_be_bytes w32 1) ++ to_be_bytes w64 c.args.epoch) (to_be_bytes w64 (length c.args.checkpoint.now)) four c.in_ok-extend_from_slice-4.ensures.items c.to_be_bytes-3.ensures in
    let six = extended (((((0 ∷ []) ++ magic) ++ to_be_bytes w32 1) ++ to_be_bytes w64 c.args.epoch) ++ to_be_bytes w64 (length c.args.checkpoint.now)) c.args.checkpoint.now five c.in_ok-extend_from_slice-5.ensures.items refl in
    extended ((((((0 ∷ []) ++ magic) ++ to_be_bytes w32 1) ++ to_be_bytes w64 c.args.epoch) ++ to_be_bytes w64 (length c.args.checkpoint.now)) ++ c.args.checkpoint.now) (0 ∷ []) six c.in_ok-push-2.ensures.items refl
