-- What the reader's values stand for. Their names and data words still lie in the text.
use Rattle.std.specs.Prelude.{ℕ, ◌≤◌, Bool, false, List, [], Option, Some, if◌then◌else◌}
use Rattle.plain_text.specs.Words.{words}
use Rattle.plan_traffic.specs.Data.{data_bytes}
use Rattle.manager_node.specs.declared.script.WriteByte.{WriteByte}
use Rattle.plan_traffic.specs.Line.{Start, Access, Line, Passed, Waits, Asks, write_with}
use Rattle.plan_traffic.specs.Orders.{Order, Holds, Issues}
use Rattle.plan_traffic.specs.declared.order.TextOrder.{TextOrder}
use Rattle.plan_traffic.specs.declared.order.TextOrder.TheVariants.{Hold, Issue}
use Rattle.plan_traffic.specs.declared.line.TextStart.{TextStart}
use Rattle.plan_traffic.specs.declared.line.TextAccess.{TextAccess}
use Rattle.plan_traffic.specs.declared.line.TextForm.{TextForm}
use Rattle.plan_traffic.specs.declared.line.TextForm.TheVariants as form
use Rattle.plan_traffic.specs.declared.line.TextLine.{TextLine}
use Rattle.plan_traffic.specs.declared.line.TextLine.TheVariants.{Nothing, Wait, Burst}

abbrev pub start_seen : TextStart → Start
start_seen start = record { manager = start.manager.now; id = start.id; addr = start.addr; size = start.size; burst = start.burst }

-- a burst that starts so
abbrev pub access_of : Start → Bool → ℕ → List WriteByte → Access
access_of start write beats bytes = record { start = start; write = write; beats = beats; bytes = bytes }

-- what a line says that has this form, once its data words are read
abbrev pub form_seen : TextForm → Option Line
form_seen form.Nothing = Some Passed
form_seen (form.Wait manager) = Some (Waits manager.now)
form_seen (form.Read start beats) = Some (Asks (access_of (start_seen start) false beats []))
form_seen (form.Write start words_left) = write_with (start_seen start) (words words_left.now)

-- a beat of a write has at most 128 bytes
abbrev pub HasBeatSize : TextForm → Type 0
HasBeatSize form.Nothing = Unit {0}
HasBeatSize (form.Wait manager) = Unit {0}
HasBeatSize (form.Read start beats) = Unit {0}
HasBeatSize (form.Write start words_left) = start.size ≤ 7

abbrev pub access_seen : TextAccess → Access
access_seen access = record {
  start = start_seen access.start;
  write = access.write;
  beats = access.beats;
  bytes = if access.write then data_bytes (words access.data.now) else [];
}

abbrev pub line_seen : TextLine → Line
line_seen Nothing = Passed
line_seen (Wait manager) = Waits manager.now
line_seen (Burst access) = Asks (access_seen access)

abbrev pub order_seen : TextOrder → Order
order_seen (Hold place) = Holds place
order_seen (Issue place access) = Issues place (access_seen access)
