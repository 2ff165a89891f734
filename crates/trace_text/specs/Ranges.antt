-- What a trace line can show: the ranges of its fields. (Arm IHI 0022, channel signals.)
use Rattle.std.specs.Prelude.{◌≡◌, ◌<◌, ◌≤◌, ◌-◌, ◌^◌, ◌&&◌, ◌||◌, not, nat_le, ℕ, Bool, List, IfSome, IsTrue, drop, length, replicate}
use Rattle.plain_text.specs.ExactLaws.{AreBytes}
use Rattle.axi_beats.specs.Bus.{is_bus_width}
use Rattle.axi_beats.specs.declared.beat.Tag.{Tag}
use Rattle.axi_beats.specs.declared.beat.WBeat.{WBeat}
use Rattle.axi_history.specs.declared.port.RawAddr.{RawAddr}
use Rattle.axi_history.specs.declared.port.RawB.{RawB}
use Rattle.axi_history.specs.declared.port.RawR.{RawR}
use Rattle.axi_history.specs.declared.port.PortKind.{PortKind}
use Rattle.axi_history.specs.declared.port.PortRound.{PortRound}

-- a port of AXI4, or one of AXI4-Lite, whose bus has 4 or 8 bytes
abbrev pub is_port_kind : PortKind → Bool
is_port_kind kind = is_bus_width kind.bus && (not kind.lite || nat_le kind.bus 8)

-- 128 lanes of a byte each, of which those from the bus upwards are 0
pub record IsOnBus (bus : ℕ) (lanes : List ℕ) : Type 0 where
  pub lanes_128 : length lanes ≡ 128
  pub bytes : AreBytes lanes
  pub above : drop bus lanes ≡ replicate (128 - bus) 0

-- the number of a transaction, and two lanes, which are numbered from 0
pub record IsTraceTag (tag : Tag) : Type 0 where
  pub txn : tag.txn < 2 ^ 32
  pub low : tag.low ≤ 127
  pub high : tag.high ≤ 127

-- a beat of AW or AR, with each value that the standard's fields can have
pub record IsTraceAddress (beat : RawAddr) : Type 0 where
  pub id : beat.id < 2 ^ 32
  pub addr : beat.addr < 2 ^ 63
  pub len : beat.len ≤ 255
  pub size : beat.size ≤ 7
  pub burst : beat.burst ≤ 3
  pub tag : IsTraceTag beat.tag

-- a beat of W: its strobe has a bit for each lane of the bus
pub record IsTraceWriteData (bus : ℕ) (beat : WBeat) : Type 0 where
  pub lanes : IsOnBus bus beat.lanes
  pub strobe : beat.strobe < 2 ^ bus
  pub tag : IsTraceTag beat.tag

-- a beat of B
pub record IsTraceResponse (beat : RawB) : Type 0 where
  pub id : beat.id < 2 ^ 32
  pub resp : beat.resp ≤ 3
  pub tag : IsTraceTag beat.tag

-- a beat of R
pub record IsTraceReadData (bus : ℕ) (beat : RawR) : Type 0 where
  pub id : beat.id < 2 ^ 32
  pub lanes : IsOnBus bus beat.lanes
  pub resp : beat.resp ≤ 3
  pub tag : IsTraceTag beat.tag

-- what one port can show in one round
pub record IsTraceRound (shown : PortRound) : Type 0 where
  pub first_round : 1 ≤ shown.round
  pub last_round : shown.round < 2 ^ 63
  pub link : shown.link < 4096
  pub kind : IsTrue (is_port_kind shown.kind)
  pub aw : IfSome shown.aw (λ seen. IsTraceAddress seen.beat)
  pub w : IfSome shown.w (λ seen. IsTraceWriteData shown.kind.bus seen.beat)
  pub b : IfSome shown.b (λ seen. IsTraceResponse seen.beat)
  pub ar : IfSome shown.ar (λ seen. IsTraceAddress seen.beat)
  pub r : IfSome shown.r (λ seen. IsTraceReadData shown.kind.bus seen.beat)
