use Rattle.aim_shards.proofs.Walks.{taken_out, with_room, has_room, notes}
use Rattle.aim_shards.proofs.turns.note.Goals as goal

pub take-quarter-requires-clause-held : goal.take-quarter-requires-clause-held
take-quarter-requires-clause-held c = with_room c.requires.held

pub note-requires : goal.note-requires
note-requires c = (let r = has_room c.requires.held c.take-quarter.ensures.taken in record { room = r.0; tiles = r.1; ahead = r.2 })

pub put-requires-clause-held : goal.put-requires-clause-held
put-requires-clause-held c = taken_out c.take-quarter.ensures.taken

pub returns-clause-noted : goal.returns-clause-noted
returns-clause-noted c = (let n = c.note.ensures in notes c.take-quarter.ensures.taken c.put.ensures.given n.entries n.room n.cells n.rest)
