-- An object may be shared between threads: its lock, its seats, the cut ledgers, and the room.
use denote.RattleType.{RattleType}
use denote.Struct.Declared
use denote.Param.Send as Send
use denote.Param.Send.{IsSync, IsSend, whole-keyless, sendable}
use Rattle.std.specs.declared.sync.ledger.Ledger.{Ghosts}
use Rattle.po_object.specs.declared.ledgers.CallLedger as CallLedger
use Rattle.po_object.specs.declared.ledgers.Story as Story
use Rattle.po_object.proofs.front.Front.TheSendSync as front
use Rattle.po_object.proofs.front.Log.TheSendSync as log
use Rattle.std.specs.contracts.sync.ledger.Book as Book
use Rattle.std.proofs.sync.ledger.Book.TheSendSync as book
use Rattle.std.specs.contracts.sync.ledger.Share as Share
use Rattle.std.proofs.sync.ledger.Share.TheSendSync as share
use Rattle.po_object.proofs.locked_core.LockedCore.TheSendSync as locked
use Rattle.po_object.proofs.latest.LatestCalls.TheSendSync as latest
use Rattle.po_core.proofs.object_core.Core.TheSendSync as core
use Rattle.po_core.specs.declared.record.Record as Record
use Rattle.po_receipts.specs.declared.receipts.Receipts as Receipts
use Rattle.po_object.specs.contracts.reservation.Reservations as Reservations
use Rattle.po_object.specs.contracts.reservation.Reservations.TheInside as Reserved
use Rattle.po_object.specs.contracts.locked_core.LockedCore.TheInside as Held
use Rattle.po_unit.specs.declared.unit.Unit as Unit
use Rattle.std.specs.declared.cmp.PartialEq as PartialEq
use Rattle.po_object.specs.contracts.locked_core.LockedCore as LockedCore
use Rattle.po_object.specs.contracts.object.Object as Object
use Rattle.po_object.specs.contracts.object.Object.TheInside as Inside
use Rattle.po_object.specs.contracts.seat.Seat as Seat
use Rattle.po_object.specs.contracts.steps.NoHook as NoHook
use Rattle.po_receipts.specs.contracts.closed_pass.ClosedPass as ClosedPass
use Rattle.po_object.proofs.seat.Seat.TheSendSync as seat
use Rattle.po_object.proofs.steps.NoHook.TheSendSync as unasked
use Rattle.po_object.proofs.ledgers.SeatParts.TheSendSync as division
use Rattle.po_receipts.proofs.closed_pass.ClosedPass.TheSendSync as spent
use Rattle.std.proofs.sync.RwLock.TheSendSync as lock
use Rattle.std.proofs.vec.Vec.TheSendSync as vec
use Rattle.std.proofs.alloc.Global.TheSendSync as global
use Rattle.std.specs.contracts.alloc.Global
use Rattle.std.specs.contracts.impls.GlobalAllocator.TheImpl as Heap

pub book_sync : (T : RattleType) (g : Ghosts T.Denot) → IsSync (Book.the_row T g)
book_sync T g = record { shared = λ d b o κ q. whole-keyless _ _ (λ z vs. (book.the_send T g).owned z vs) q d b o }

pub share_sync : (T : RattleType) (g : Ghosts T.Denot) → IsSync (Share.the_row T g)
share_sync T g = record { shared = λ d b o κ q. whole-keyless _ _ (λ z vs. (share.the_send T g).owned z vs) q d b o }

pub reservations_sync : (F : RattleType) (g : Ghosts F.Denot) → IsSync (Reservations.the_row F g)
reservations_sync F g =
    Send.view_sync (Reserved.the_row F g) _ _ _ _
    (Send.recorded_sync (Reserved.the_field F g).row _ _ (Reserved.the_type F g).to_one
    (Send.struct_sync (Declared.shape (Reserved.the_type F g)) (
      search (sendable, book_sync),
      tt,
    )))

pub locked_sync : (U C P F R Q V : RattleType) (g : Unit.Ghosts U.Denot V.Denot) (e : PartialEq.Ghosts V.Denot) (j : Story.Ghosts C.Denot U.Denot V.Denot) (l : CallLedger.Ghosts C.Denot V.Denot) (g' : Ghosts C.Denot) (g'' : Ghosts P.Denot) (g''' : Ghosts F.Denot) (k : Record.Ghosts R.Denot U.Denot V.Denot) (r : Receipts.Ghosts Q.Denot V.Denot) → IsSend U → IsSync U → IsSend R → IsSync R → IsSend Q → IsSync Q → IsSend V → IsSync V → IsSync (LockedCore.the_row U C P F R Q V g e j l g' g'' g''' k r)
locked_sync U C P F R Q V g e j l g' g'' g''' k r n s m t o p w v =
    Send.view_sync (Held.the_row U C P F R Q V g e j l g' g'' g''' k r) _ _ _ _
    (Send.recorded_sync (Held.the_field U C P F R Q V g e j l g' g'' g''' k r).row _ _ (Held.the_type U C P F R Q V g e j l g' g'' g''' k r).to_one
    (Send.struct_sync (Declared.shape (Held.the_type U C P F R Q V g e j l g' g'' g''' k r)) (
      search (sendable, core.the_sync),
      (
        search (sendable, book_sync),
        (
          search (sendable, book_sync),
          (
            search (sendable, reservations_sync),
            (
              search sendable,
              (
                search (sendable, share_sync),
                (
                  search (sendable, share_sync),
                  (
                    search (sendable, latest.the_sync),
                    (
                      search (sendable, log.the_sync),
                      tt,
                    ),
                  ),
                ),
              ),
            ),
          ),
        ),
      ),
    )))

-- an object that asks any steps that may be shared
pub object_with_sync : (U C P F R Q S V : RattleType) (g : Ghosts C.Denot) (g' : Ghosts P.Denot) (g'' : Unit.Ghosts U.Denot V.Denot) (e : PartialEq.Ghosts V.Denot) (j : Story.Ghosts C.Denot U.Denot V.Denot) (l : CallLedger.Ghosts C.Denot V.Denot) (g''' : Ghosts F.Denot) (k : Record.Ghosts R.Denot U.Denot V.Denot) (r : Receipts.Ghosts Q.Denot V.Denot) → IsSend U → IsSync U → IsSend R → IsSync R → IsSend Q → IsSync Q → IsSend V → IsSync V → IsSync S → IsSync (Object.the_row U C P F R Q S V g g' g'' e j l g''' k r)
object_with_sync U C P F R Q S V g g' g'' e j l g''' k r n s m t o p w v x =
    Send.view_sync (Inside.the_row U C P F R Q S V g g' g'' e j l g''' k r) _ _ _ _
    (Send.recorded_sync (Inside.the_field U C P F R Q S V g g' g'' e j l g''' k r).row _ _ (Inside.the_type U C P F R Q S V g g' g'' e j l g''' k r).to_one
    (Send.struct_sync (Declared.shape (Inside.the_type U C P F R Q S V g g' g'' e j l g''' k r)) (
      lock.the_field_sync (LockedCore.the_row U C P F R Q V g'' e j l g g' g''' k r) (locked.the_send U C P F R Q V g'' e j l g g' g''' k r n m w) (locked_sync U C P F R Q V g'' e j l g g' g''' k r n s m t o p w v),
      (
        vec.the_sync Seat.the_row Global.the_row Heap.ghosts seat.the_sync global.the_sync,
        (
          division.the_field_sync C g,
          (
            division.the_field_sync P g',
            (
              vec.the_sync (ClosedPass.the_row V Q r) Global.the_row Heap.ghosts (search (sendable, spent.the_sync)) global.the_sync,
              (
                vec.the_sync _ Global.the_row Heap.ghosts (search sendable) global.the_sync,
                (
                  search (sendable, front.the_sync),
                  (
                    x,
                    tt,
                  ),
                ),
              ),
            ),
          ),
        ),
      ),
    )))

-- an object that asks nothing
pub object_sync : (U C P F R Q V : RattleType) (g : Ghosts C.Denot) (g' : Ghosts P.Denot) (g'' : Unit.Ghosts U.Denot V.Denot) (e : PartialEq.Ghosts V.Denot) (j : Story.Ghosts C.Denot U.Denot V.Denot) (l : CallLedger.Ghosts C.Denot V.Denot) (g''' : Ghosts F.Denot) (k : Record.Ghosts R.Denot U.Denot V.Denot) (r : Receipts.Ghosts Q.Denot V.Denot) → IsSend U → IsSync U → IsSend R → IsSync R → IsSend Q → IsSync Q → IsSend V → IsSync V → IsSync (Object.the_row U C P F R Q NoHook.the_row V g g' g'' e j l g''' k r)
object_sync U C P F R Q V g g' g'' e j l g''' k r n s m t o p w v =
    object_with_sync U C P F R Q NoHook.the_row V g g' g'' e j l g''' k r n s m t o p w v unasked.the_sync
