-- What the lines of a script of events say behind its header: a question over the whole list of lines.
use Rattle.std.specs.Prelude.{List, filter_map, Option, Some, None}
use Rattle.aim_messages.specs.declared.script.Line.{Line}
use Rattle.aim_messages.specs.declared.script.Line.TheVariants as line
use Rattle.aim_mail_script.specs.declared.scripts.Event.{Event}

abbrev pub event_in : Line → Option Event
event_in (line.Event vehicle moment message) = Some (record { vehicle = vehicle; moment = moment; message = message })
event_in _ = None

-- the events, in the order of their lines
abbrev pub events_of : List Line → List Event
events_of lines = filter_map event_in lines
