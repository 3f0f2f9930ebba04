pub mod Kin
mod Knowing
pub mod Walks
pub mod Small
pub mod ByKind
pub mod Stepping
pub mod Made
pub mod Succeeding
pub mod Groups
mod Matching
mod OpensHere
mod Begun
mod Outset
mod Tied
mod Agrees
mod Moving
mod Lines
mod Going
mod Succeeded
mod Facts
mod Starting
mod Searching
mod Ending
mod Birth
mod Confirming
mod Bytes
pub mod Spelled
mod Says
pub mod OutFacts
mod OutNumbers
mod OutPackets
pub mod PacketPieces
mod OutHeld
pub mod Resealed
mod Staged
mod LowestId
mod OutSends
mod OutKeyings
mod OutItems
mod NoFacts
pub mod Replies
mod OutBirths
mod InSessions
mod Admitting
mod Answering
mod Bearing
mod Keyed
mod Numbers
pub mod Hearing
mod Unseen
mod Following
mod HeardChunks
mod Passing
mod SessionChunks
mod Chunked
mod Coming
mod OutSessions
mod OutAcks
mod Few
mod FlowChunks
mod Pieces
mod OutChunks
mod Counted
mod Counts
mod Taking
mod HeardEvents
mod HeardAdmission
mod OnFlows
mod FlowData
mod FlowTimes
mod Orderly
pub mod Logged
pub mod Opened
pub mod Drawn
pub mod DrawnOnce
mod OfTheLog
pub mod AgreedLaw
mod AgreedLogs
pub mod AnswerCarried
mod Carried
mod Complete
mod AllHanded
mod FlowsWithin
mod FlowsFew
mod PiecesFew
mod Components
pub mod EachRow
mod EventTold
mod FactsAlone
mod Fresh
mod Heard
mod HeldTold
mod HistoryTold
mod ReadsBack
mod StatedFacts
mod Telling
pub mod Unique
mod Stating
mod AcksFew
mod NoneOwed
