-- What the known traces break is computed.
use Rattle.std.proofs.Common.{refl}
use Rattle.axi_history.specs.KnownTraces.{Handshakes, Addresses, WriteData, Responses, ReadData}

pub handshakes : Handshakes
handshakes = (refl, refl, refl)

pub addresses : Addresses
addresses = (refl, refl, refl, refl, refl, refl, refl, refl, refl, refl)

pub write_data : WriteData
write_data = (refl, refl, refl, refl, refl, refl)

pub responses : Responses
responses = (refl, refl, refl, refl, refl, refl, refl)

pub read_data : ReadData
read_data = (refl, refl, refl, refl, refl, refl)
