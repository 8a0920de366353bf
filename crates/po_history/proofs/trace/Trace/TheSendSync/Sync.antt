-- A shared trace owns what a trace owns, which is nothing, so it may be shared among threads.
use denote.RattleType.{RattleType}
use denote.Struct.Owning.{shape, to}
use denote.Param.Send.{IsSend, IsSync, whole-keyless, struct_send, sendable}
use Rattle.po_history.specs.contracts.trace.Trace.{the_row, the_type}

pub sync : (T : RattleType) → IsSend T → IsSync (the_row T)
sync T t =
    let O = the_type T in
    record { shared = λ d b o κ q. whole-keyless _ _ (λ z vs. ((struct_send (shape O) (search sendable, tt)).owned (to O z) vs, tt)) q d b o }
