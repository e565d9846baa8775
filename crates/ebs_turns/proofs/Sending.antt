-- Passes and turns may be sent to other threads, and turns be shared by threads, where the value and the items may be sent.
use denote.RattleType.{RattleType}
use denote.Param.Send.{IsSend, IsSync, enum_send, recorded_send, sendable, part_keyless, struct_sync, recorded_sync, struct_send}
use denote.Enum.Enum.{Enum}
use denote.Enum.Declared.{shape}
use denote.Struct.Owning.{shape as owning_shape}
use denote.Struct.Struct.{Struct}
use denote.Struct.Declared.{shape as struct_shape}
use Rattle.std.proofs.Crossing.{crosses}
use Rattle.atomic_table.proofs.Sent.{seat_keyless, owns_keyless, shares_keyless}
use Rattle.atomic_table.proofs.Rights.{right_send}
use Rattle.atomic_table.specs.contracts.shared.Shared as shared
use Rattle.atomic_table.specs.contracts.send_lease.SendLease as lease
use Rattle.atomic_table.specs.contracts.shared.Seat as seat_row
use Rattle.atomic_table.specs.contracts.owned.Table as board
use Rattle.std.specs.contracts.alloc.Global as global
use Rattle.std.specs.contracts.impls.GlobalAllocator.TheImpl as alloc
use Rattle.ebs_turns.specs.declared.subject.Subject.{Ghosts}
use Rattle.ebs_turns.specs.contracts.turns.Turns as turns
use Rattle.ebs_turns.specs.contracts.turns.Pass as pass
use Rattle.ebs_turns.specs.contracts.line.Deed as deed
use Rattle.ebs_turns.specs.contracts.line.Left as left
use Rattle.ebs_turns.specs.contracts.seats.Opening as opening
use Rattle.ebs_turns.specs.contracts.seats.Rule as ruled
use Rattle.ebs_turns.specs.contracts.seats.View as view
use Rattle.ebs_turns.specs.contracts.seats.Place as place
use Rattle.ebs_turns.specs.contracts.seats.RuleTableRulePlaceViewOpening.TheImpl as rule

-- a field whose type is an enum is the plain one
deed_send : IsSend (Enum (shape deed.the_type))
deed_send = enum_send (shape deed.the_type) (tt, ((search (sendable, crosses), tt), ((search (sendable, crosses), tt), tt)))

pub left_send : (I : RattleType) → IsSend I → IsSend (left.the_row I)
left_send I i = let L = left.the_type I in recorded_send (Struct (struct_shape L)) L.D L.to L.to_one (struct_send (struct_shape L) (i, (deed_send, tt)))

pub place_send : (T I : RattleType) → IsSend T → IsSend I → IsSend (place.the_row T I)
place_send T I t i = let P = place.the_type T I in recorded_send (Enum (shape P)) P.D P.to P.to_one (enum_send (shape P) ((t, (search (sendable, crosses, left_send), tt)), (tt, tt)))

pub chair_send : (T I : RattleType) → IsSend T → IsSend I → IsSend (seat_row.the_row (place.the_row T I) (view.the_row T I))
chair_send T I t i = let S = place.the_row T I in let V = view.the_row T I in record { owned = λ x vs. ((λ vss. (tt, ((λ uss. (tt, tt)), tt))), seat_keyless S (place_send T I t i) V.coded.code x.table_id x.id x.me); leaving = λ k f vs. tt }

-- as a field, and in a place of its own
pub pass_field_send : (T I : RattleType) → IsSend T → IsSend I → IsSend (Struct (struct_shape (pass.the_type T I)))
pass_field_send T I t i = struct_send (struct_shape (pass.the_type T I)) (chair_send T I t i, (search sendable, tt))

pub pass_send : (T I : RattleType) → IsSend T → IsSend I → IsSend (pass.the_row T I)
pass_send T I t i = let P = pass.the_type T I in recorded_send (Struct (struct_shape P)) P.D P.to P.to_one (pass_field_send T I t i)

lease_send : (T : RattleType) → IsSend (lease.the_row T global.the_row alloc.ghosts)
lease_send T = right_send T global.the_row alloc.ghosts (search crosses)

lease_sync : (T : RattleType) → IsSync (lease.the_row T global.the_row alloc.ghosts)
lease_sync T = record { shared = λ d b o ν q. part_keyless (lease.the_row T global.the_row alloc.ghosts) (lease_send T) q d b o }

shared_sync : (T I : RattleType) (g : Ghosts T.Denot I.Denot) → IsSend T → IsSend I → IsSync (shared.the_row (place.the_row T I) (view.the_row T I) (opening.the_row T) (ruled.the_row T I) (rule.ghosts T I g rule.no_dict))
shared_sync T I g t i =
    let S = place.the_row T I in
    let V = view.the_row T I in
    let r = rule.ghosts T I g rule.no_dict in
    let fields : IsSync (Struct (owning_shape (shared.the_type S V (opening.the_row T) (ruled.the_row T I) r))) = search sendable depth 20 in
    record { shared = λ x b o ν. (fields.shared (x.words, (x.slots, (tt, tt))) b o ν, shares_keyless S (place_send T I t i) V.coded.code x.table_id (r.holds x.key) x.words x.slots ν) }

pub turns_field_sync : (T I : RattleType) (g : Ghosts T.Denot I.Denot) → IsSend T → IsSend I → IsSync (Struct (struct_shape (turns.the_type T I g)))
turns_field_sync T I g t i =
    let B = board.the_type (place.the_row T I) (view.the_row T I) (opening.the_row T) (ruled.the_row T I) global.the_row (rule.ghosts T I g rule.no_dict) alloc.ghosts in
    struct_sync (struct_shape (turns.the_type T I g)) (struct_sync (struct_shape B) (shared_sync T I g t i, (search sendable, (search sendable, (lease_sync _, (lease_sync (place.the_row T I), (search (sendable, crosses) depth 12, tt)))))), (search sendable, tt))

pub turns_sync : (T I : RattleType) (g : Ghosts T.Denot I.Denot) → IsSend T → IsSend I → IsSync (turns.the_row T I g)
turns_sync T I g t i = let A = turns.the_type T I g in recorded_sync (Struct (struct_shape A)) A.D A.to A.to_one (turns_field_sync T I g t i)

shared_send : (T I : RattleType) (g : Ghosts T.Denot I.Denot) → IsSend T → IsSend I → IsSend (shared.the_row (place.the_row T I) (view.the_row T I) (opening.the_row T) (ruled.the_row T I) (rule.ghosts T I g rule.no_dict))
shared_send T I g t i =
    let S = place.the_row T I in
    let V = view.the_row T I in
    let r = rule.ghosts T I g rule.no_dict in
    record { owned = λ x vs. ((λ vss. (tt, (tt, (tt, ((λ uss. (tt, tt)), tt))))), owns_keyless S (place_send T I t i) V.coded.code x.table_id (r.holds x.key) x.words x.slots); leaving = λ k f vs. tt }

pub turns_field_send : (T I : RattleType) (g : Ghosts T.Denot I.Denot) → IsSend T → IsSend I → IsSend (Struct (struct_shape (turns.the_type T I g)))
turns_field_send T I g t i =
    let B = board.the_type (place.the_row T I) (view.the_row T I) (opening.the_row T) (ruled.the_row T I) global.the_row (rule.ghosts T I g rule.no_dict) alloc.ghosts in
    struct_send (struct_shape (turns.the_type T I g)) (struct_send (struct_shape B) (shared_send T I g t i, (search sendable, (search sendable, (lease_send _, (lease_send (place.the_row T I), (search (sendable, crosses) depth 12, tt)))))), (search sendable, tt))

pub turns_send : (T I : RattleType) (g : Ghosts T.Denot I.Denot) → IsSend T → IsSend I → IsSend (turns.the_row T I g)
turns_send T I g t i = let A = turns.the_type T I g in recorded_send (Struct (struct_shape A)) A.D A.to A.to_one (turns_field_send T I g t i)
