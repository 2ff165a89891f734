-- What the known traces break is computed.
use Rattle.std.proofs.Common.{refl}
use Rattle.lite_rules.specs.KnownLiteTraces.{LiteHandshakes, LiteAddresses, LiteWriteData, LiteResponses, LiteReadData}

pub handshakes : LiteHandshakes
handshakes = (refl, refl, refl, refl)

pub addresses : LiteAddresses
addresses = (refl, refl, refl, refl, refl, refl, refl, refl)

pub write_data : LiteWriteData
write_data = (refl, refl)

pub responses : LiteResponses
responses = (refl, refl, refl, refl, refl, refl, refl, refl, refl)

pub read_data : LiteReadData
read_data = (refl, refl, refl, refl, refl, refl, refl)
