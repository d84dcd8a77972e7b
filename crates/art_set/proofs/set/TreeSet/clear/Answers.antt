use Rattle.art_set.proofs.set.TreeSet.clear.Goals as goal

pub returns-clause-room : goal.returns-clause-room
returns-clause-room g c = rw (← c.self.view_is) c.clear.ensures.room

pub returns-clause-room_of : goal.returns-clause-room_of
returns-clause-room_of g c = rw (← c.self.view_is) c.clear.ensures.room_of
