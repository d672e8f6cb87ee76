-- The file is written where the buffer has room for it.
use Rattle.std.proofs.Common.{arith, length, sym, ◌∙◌}
use Rattle.plan_file.specs.Writing.{plan_size, has_room_lem, written}
use Rattle.plan_file.specs.lemmas.Bytes.{bytes_written}
use Rattle.plan_file.proofs.write.Goals as goal

pub plan_size-requires : goal.plan_size-requires
plan_size-requires c = (has_room_lem _ _ (sym c.has_room.ensures ∙ c.if-has_room.true)).0

pub write_bytes-requires-clause-room : goal.write_bytes-requires-clause-room
write_bytes-requires-clause-room c = rw c.plan_size.ensures (has_room_lem _ _ (sym c.has_room.ensures ∙ c.if-has_room.true)).1

pub write_bytes-requires-clause-few : goal.write_bytes-requires-clause-few
unfolding plan_size
write_bytes-requires-clause-few c =
    let room = has_room_lem _ _ (sym c.has_room.ensures ∙ c.if-has_room.true) in
    rw c.plan_size.ensures (omega (arith, room.0))

pub returns-then-has_room : goal.returns-then-has_room
unfolding written
returns-then-has_room c =
    let room = sym c.has_room.ensures ∙ c.if-has_room.true in
    let a = c.args in
    c.write_bytes.ensures
    ∙ simp (room, c.plan_size.ensures)
    (bytes_written a.p a.streams a.out.now (has_room_lem a.streams (length a.out.now) room).1)
