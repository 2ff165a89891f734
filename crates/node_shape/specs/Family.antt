-- Several kinds as one: a node of it is of one of them.
use Rattle.node_shape.specs.Kind.{Kind, next_of, out_of}

-- `StateOf` tells the states of each kind: which kind it is, and its state
pub record OneOf {I : Type 0} (StateOf : I → Type 0) : Type 0 where
  pub kind : I
  pub state : StateOf kind

-- each member is that of the kind
abbrev pub family : {I E : Type 0} {StateOf : I → Type 0} → ((i : I) → Kind (StateOf i) E) → Kind (OneOf StateOf) E
family kinds = record {
  uppers = λ s. (kinds s.kind).uppers s.state;
  lowers = λ s. (kinds s.kind).lowers s.state;
  begins = λ s. (kinds s.kind).begins s.state;
  fact = λ s. (kinds s.kind).fact s.state;
  can = λ round links s. (kinds s.kind).can round links s.state;
  table = λ round links s. record { state = record { kind = s.kind; state = next_of (kinds s.kind) round links s.state }; out = out_of (kinds s.kind) round links s.state };
  wants = λ links s. (kinds s.kind).wants links s.state;
  notes = λ links s. (kinds s.kind).notes links s.state;
  way = λ s. (kinds s.kind).way s.state;
  is_sound = λ forms schedules s. (kinds s.kind).is_sound forms schedules s.state;
  suits = λ schedules s. (kinds s.kind).suits schedules s.state;
  keeps = λ schedules rounds s passed. (kinds s.kind).keeps schedules rounds s.state passed;
  knows = λ schedules s passed. (kinds s.kind).knows schedules s.state passed;
  is_done = λ s. (kinds s.kind).is_done s.state;
  patience = λ s. (kinds s.kind).patience s.state;
}
