-- A link that offers a beat (Arm IHI 0022, handshake process).
use Rattle.std.specs.Prelude.{◌||◌, Bool, is_some}
use Rattle.axi_link.specs.LinkView.{LinkView}
use Rattle.axi_link.specs.LinkWords.{head_of}

-- some channel offers one
abbrev pub offers_beat : LinkView → Bool
offers_beat link = is_some (head_of link.aw) || is_some (head_of link.w) || is_some (head_of link.b) || is_some (head_of link.ar) || is_some (head_of link.r)
