-- The names of errors and of the events of a conversation (XATMI, tperrno and tprecv; NOMEM, for want of memory, is this project's own).
use Rattle.std.specs.Prelude.{ℕ, List, codes}
use Rattle.xa_types.specs.declared.fault.Fault.{Fault}
use Rattle.xa_types.specs.declared.fault.Fault.TheVariants.{Inval, NoEnt, IType, OType, BadDesc, Limit, Block, Time, Proto, System, Match, SvcFail, SvcErr, Event, NoMemory}
use Rattle.xa_types.specs.declared.fault.ConvEvent.{ConvEvent}
use Rattle.xa_types.specs.declared.fault.ConvEvent.TheVariants.{DisconImm, SendOnly, SvcErr as EndErr, SvcFail as EndFail, SvcSucc as EndSucc, NoMemory as EndNoMemory}

abbrev pub fault_text : Fault → List ℕ
fault_text Inval = codes "TPEINVAL"
fault_text NoEnt = codes "TPENOENT"
fault_text IType = codes "TPEITYPE"
fault_text OType = codes "TPEOTYPE"
fault_text BadDesc = codes "TPEBADDESC"
fault_text Limit = codes "TPELIMIT"
fault_text Block = codes "TPEBLOCK"
fault_text Time = codes "TPETIME"
fault_text Proto = codes "TPEPROTO"
fault_text System = codes "TPESYSTEM"
fault_text Match = codes "TPEMATCH"
fault_text SvcFail = codes "TPESVCFAIL"
fault_text SvcErr = codes "TPESVCERR"
fault_text Event = codes "TPEEVENT"
fault_text NoMemory = codes "NOMEM"

abbrev pub event_text : ConvEvent → List ℕ
event_text DisconImm = codes "TPEV_DISCONIMM"
event_text SendOnly = codes "TPEV_SENDONLY"
event_text EndErr = codes "TPEV_SVCERR"
event_text EndFail = codes "TPEV_SVCFAIL"
event_text EndSucc = codes "TPEV_SVCSUCC"
event_text EndNoMemory = codes "NOMEM"
