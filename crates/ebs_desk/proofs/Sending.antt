-- A pass and a desk may be sent to another thread, and a desk be shared by threads, where the disk may be sent.
use denote.RattleType.{RattleType}
use denote.Param.Send.{IsSend, IsSync, sendable}
use Rattle.std.proofs.Crossing.{crosses}
use Rattle.ebs_world.specs.declared.disk.Disk as disk
use Rattle.ebs_disk_store.specs.contracts.store.Store as store
use Rattle.ebs_disk_store.specs.declared.store.Promise as promise
use Rattle.ebs_turns.specs.declared.subject.Subject.{Ghosts}
use Rattle.ebs_turns.proofs.Sending as turns
use Rattle.ebs_desk.specs.contracts.desk.Desk as desk
use Rattle.ebs_desk.specs.contracts.desk.Pass as pass
use Rattle.ebs_desk.specs.contracts.item.Item as item
use Rattle.ebs_desk.specs.contracts.shelf.Shelf as shelf
use Rattle.ebs_desk.specs.contracts.shelf.ShelfStoreSubjectItem.TheImpl as subject
use Rattle.ebs_desk.proofs.SendingStore.{store_send}

item_send : (D : RattleType) → IsSend (item.the_row D)
item_send D = search (sendable, crosses) depth 20

module _ (S D : RattleType) (g : promise.Ghosts S.Denot) (w : disk.Ghosts D.Denot) (d : IsSend D) where
  abbrev T : RattleType
  T = shelf.the_row (store.the_row S g) D

  shelf_send : IsSend T
  shelf_send = search (sendable, store_send) depth 20

  -- as a field, and in a place of its own
  pub pass_field_send : IsSend (pass.the_field S D g w).row
  pass_field_send = let inner = turns.pass_field_send T (item.the_row D) shelf_send (item_send D) in search sendable depth 20

  pub pass_send : IsSend (pass.the_row S D g w)
  pass_send = let inner = turns.pass_field_send T (item.the_row D) shelf_send (item_send D) in search sendable depth 20

  abbrev ghosts : Ghosts T.Denot (item.the_row D).Denot
  ghosts = subject.ghosts S D g subject.no_dict w subject.no_dict

  pub desk_sync : IsSync (desk.the_row S D g w)
  desk_sync = let inner = turns.turns_field_sync T (item.the_row D) ghosts shelf_send (item_send D) in search sendable depth 20

  pub desk_send : IsSend (desk.the_row S D g w)
  desk_send = let inner = turns.turns_field_send T (item.the_row D) ghosts shelf_send (item_send D) in search sendable depth 20
