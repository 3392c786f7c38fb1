-- A closed end answers 6 to every call.
use Rattle.icbmsg.specs.Rings.{push_rule, start_of, pull_rule, all_or_nothing}
use Rattle.icbmsg.specs.Messages.{reserve_of, room_of, send_of, drop_of, view_of, done_of, room_question, view_question}
use Rattle.icbmsg.specs.Registering.{register_of}
use Rattle.icbmsg.specs.Arrivals.{arrival_rule}
use Rattle.icbmsg.specs.Calls.{start, push, pull, reserve, room, send, drop, arrival, view, done, register, ask_room, ask_view, rule, read_from, step}
use Rattle.icbmsg.specs.Theorems.{part_of, ClosedSix}

pub closed_six : ClosedSix
unfolding step rule read_from part_of push_rule start_of pull_rule all_or_nothing reserve_of room_of send_of drop_of view_of done_of room_question view_question register_of arrival_rule
closed_six e (start tx) h = rw h
closed_six e (push tx c) h = rw h
closed_six e (pull r b) h = rw h
closed_six e (reserve k) h = rw h
closed_six e (room tx s) h = rw h
closed_six e (send tx s a k) h = rw h
closed_six e (drop s) h = rw h
closed_six e (arrival r m) h = rw h
closed_six e (view rx s) h = rw h
closed_six e (done tx s) h = rw h
closed_six e (register tx n) h = rw h
closed_six e (ask_room s n) h = rw h
closed_six e (ask_view s n) h = rw h
