-- The causes of refusals: their codes, their names, and which of them name a place.
use Rattle.std.specs.Prelude.{◌==◌, ◌∷◌, ℕ, Bool, true, false, List, [], Option, codes, find}
use Rattle.refusals.specs.declared.cause.Cause.{Cause}
use Rattle.refusals.specs.declared.cause.Cause.TheVariants.{InputTooLong, NotText, NoSeparator, TomlRefused, BadKey, DuplicateName, UnknownName, FanIn, Loose, Cycle, BadRegion, Overlap, WidthMismatch, IdOverflow, LiteMismatch, TooLarge, BadLine, UnknownManager, BadId, IllegalBurst, TooMuchTraffic, BadTraceLine, NotBuilt, BadGuard, BadRogue, NoTrace}

-- the code of a cause
abbrev pub cause_code : Cause → ℕ
cause_code InputTooLong = 1
cause_code NotText = 2
cause_code NoSeparator = 3
cause_code TomlRefused = 4
cause_code BadKey = 5
cause_code DuplicateName = 6
cause_code UnknownName = 7
cause_code FanIn = 8
cause_code Loose = 9
cause_code Cycle = 10
cause_code BadRegion = 11
cause_code Overlap = 12
cause_code WidthMismatch = 13
cause_code IdOverflow = 14
cause_code LiteMismatch = 15
cause_code TooLarge = 16
cause_code BadLine = 17
cause_code UnknownManager = 18
cause_code BadId = 19
cause_code IllegalBurst = 20
cause_code TooMuchTraffic = 21
cause_code BadTraceLine = 22
cause_code NotBuilt = 23
cause_code BadGuard = 24
cause_code BadRogue = 25
cause_code NoTrace = 26

-- its name, as the line of a refusal has it
abbrev pub cause_name : Cause → List ℕ
cause_name InputTooLong = codes "InputTooLong"
cause_name NotText = codes "NotText"
cause_name NoSeparator = codes "NoSeparator"
cause_name TomlRefused = codes "TomlRefused"
cause_name BadKey = codes "BadKey"
cause_name DuplicateName = codes "DuplicateName"
cause_name UnknownName = codes "UnknownName"
cause_name FanIn = codes "FanIn"
cause_name Loose = codes "Loose"
cause_name Cycle = codes "Cycle"
cause_name BadRegion = codes "BadRegion"
cause_name Overlap = codes "Overlap"
cause_name WidthMismatch = codes "WidthMismatch"
cause_name IdOverflow = codes "IdOverflow"
cause_name LiteMismatch = codes "LiteMismatch"
cause_name TooLarge = codes "TooLarge"
cause_name BadLine = codes "BadLine"
cause_name UnknownManager = codes "UnknownManager"
cause_name BadId = codes "BadId"
cause_name IllegalBurst = codes "IllegalBurst"
cause_name TooMuchTraffic = codes "TooMuchTraffic"
cause_name BadTraceLine = codes "BadTraceLine"
cause_name NotBuilt = codes "NotBuilt"
cause_name BadGuard = codes "BadGuard"
cause_name BadRogue = codes "BadRogue"
cause_name NoTrace = codes "NoTrace"

-- these causes are of an input as a whole; the others name a line or a node
abbrev pub names_place : Cause → Bool
names_place InputTooLong = false
names_place NotText = false
names_place NoSeparator = false
names_place TomlRefused = false
names_place TooMuchTraffic = false
names_place BadGuard = false
names_place NoTrace = false
names_place other = true

-- all causes, in order of code
abbrev pub causes : List Cause
causes =
    InputTooLong ∷ NotText ∷ NoSeparator ∷ TomlRefused ∷ BadKey ∷ DuplicateName ∷ UnknownName ∷ FanIn ∷ Loose ∷ Cycle ∷ BadRegion ∷ Overlap ∷
    WidthMismatch ∷ IdOverflow ∷ LiteMismatch ∷ TooLarge ∷ BadLine ∷ UnknownManager ∷ BadId ∷ IllegalBurst ∷ TooMuchTraffic ∷ BadTraceLine ∷
    NotBuilt ∷ BadGuard ∷ BadRogue ∷ NoTrace ∷ []

-- the cause with this code
abbrev pub cause_of_code : ℕ → Option Cause
cause_of_code code = find (λ cause. cause_code cause == code) causes
