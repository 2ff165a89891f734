-- What a port shows (Arm IHI 0022, handshake process).
use Rattle.std.specs.Prelude.{◌||◌, Bool, is_some}
use Rattle.axi_history.specs.declared.port.PortRound.{PortRound}

-- some channel offers a beat
abbrev pub is_shown : PortRound → Bool
is_shown r = is_some r.aw || is_some r.w || is_some r.b || is_some r.ar || is_some r.r
