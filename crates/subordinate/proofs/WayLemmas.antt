-- What a link carries to a subordinate, at which all transactions end, suits it.
use Rattle.std.proofs.Common.{◌≡◌, ℕ, true, false, List, [], ◌∷◌, length, map, Option, Some, None, refl, sym, ◌∙◌, ap, subst}
use Rattle.std.specs.Prelude.{Contains, unwrap_or}
use Rattle.std.specs.List.{AllZip}
use Rattle.axi_beats.specs.declared.beat.Addr.{Addr}
use Rattle.axi_beats.specs.declared.beat.WBeat.{WBeat}
use Rattle.axi_trail.specs.Schedule.{Schedule, Share, no_share}
use Rattle.burst_address.specs.Formulas.{beats_of}
use Rattle.node_shape.specs.LegalSchedule.{IsDataOf}
use Rattle.node_shape.specs.LinkForm.{LinkForm}
use Rattle.node_shape.specs.Way.{IsWay, end_here}
use Rattle.node_shape.specs.WaysAround.{WaysAround}
use Rattle.node_shape.proofs.OneLinkLemmas.{one-has}
use Rattle.subordinate.specs.Service.{Service}
use Rattle.subordinate.specs.Tracks.{SuitsService, ends_with}

-- each part has its data
data-whole : (bus : ℕ) (parts : List Addr) (written : List (List WBeat)) → AllZip (IsDataOf bus) parts written → map (λ (beats : List WBeat). length beats) written ≡ map beats_of parts
data-whole bus [] [] is = refl
data-whole bus [] (d ∷ written) is = absurd is
data-whole bus (p ∷ parts) [] is = absurd is
data-whole bus (p ∷ parts) (d ∷ written) is =
    ap (λ n. n ∷ map (λ (beats : List WBeat). length beats) written) is.0.whole ∙ ap (λ ns. beats_of p ∷ ns) (data-whole bus parts written is.1)

module _ {D : Type 0} (service : Service D) where
  pub ends-has_way : IsWay (end_here (ends_with service))
  ends-has_way = record {
    goes_on = λ share responses. refl;
    cut = λ share responses. refl;
    chain = λ share. refl;
    merged = λ write share responses below. refl;
    ends = λ write share responses. refl;
  }

  module _ (u : ℕ) (forms : ℕ → LinkForm) (schedules : ℕ → Schedule) (ways : WaysAround (end_here (ends_with service)) (u ∷ []) [] forms schedules) where
    among : Contains (u ∷ []) u
    among = one-has u

    data-suits : (t : ℕ) (o : Option Share) → ways.carried_writes u t ≡ o → map (λ (beats : List WBeat). length beats) (unwrap_or o no_share).write_data ≡ map beats_of (unwrap_or o no_share).parts
    data-suits t None is = refl
    data-suits t (Some share) is = data-whole (forms u).bus share.parts share.write_data ((ways.writes.above u t share among is).fits.write_data refl)

    responses-suit : (t : ℕ) (o : Option Share) → ways.carried_writes u t ≡ o → (unwrap_or o no_share).responses ≡ ends_with service true (unwrap_or o no_share)
    responses-suit t None is = refl
    responses-suit t (Some share) is = ways.writes.ends u t share among is refl

    read_responses-suit : (t : ℕ) (o : Option Share) → ways.carried_reads u t ≡ o → (unwrap_or o no_share).responses ≡ ends_with service false (unwrap_or o no_share)
    read_responses-suit t None is = refl
    read_responses-suit t (Some share) is = ways.reads.ends u t share among is refl

    pub service-suits : (t : ℕ) → SuitsService service ((schedules u).writes t) ((schedules u).reads t)
    service-suits t = record {
      write_data = subst (λ (x : Share). map (λ (beats : List WBeat). length beats) x.write_data ≡ map beats_of x.parts) (sym (ways.writes_are u t)) (data-suits t (ways.carried_writes u t) refl);
      responses = subst (λ (x : Share). x.responses ≡ ends_with service true x) (sym (ways.writes_are u t)) (responses-suit t (ways.carried_writes u t) refl);
      read_responses = subst (λ (x : Share). x.responses ≡ ends_with service false x) (sym (ways.reads_are u t)) (read_responses-suit t (ways.carried_reads u t) refl);
    }
