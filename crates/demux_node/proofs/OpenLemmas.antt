-- The writes that lack data are the last entries.
use Rattle.std.proofs.Common.{◌≡◌, ◌<◌, ◌≤◌, ◌+◌, ◌==◌, ℕ, suc, Bool, true, false, cond, List, [], ◌∷◌, ◌++◌, length, map, refl, sym, ◌∙◌, ap, subst, arith, append_assoc, length-append}
use Rattle.std.specs.Prelude.{Some, None, find}
use Rattle.std.proofs.lemmas.List.{length-map, map-append}
use Rattle.axi_beats.specs.declared.beat.Addr.{Addr}
use Rattle.axi_beats.specs.declared.beat.WBeat.{WBeat}
use Rattle.axi_trail.proofs.FilterFacts.{length-marks}
use Rattle.axi_trail.proofs.StepFacts.{beat_keeps_order, next_beat}
use Rattle.axi_trail.proofs.WaitingFacts.{pending-beat, pending-request}
use Rattle.axi_trail.specs.Waiting.{Waiting, advanced, fresh}
use Rattle.axi_trail.specs.Words.{Asked, Mark, burst_asked, id_of_waiting, len_of_asked, mark_of_data, marks, marks_of, next_mark, pending_asked}
use Rattle.demux_node.specs.DemuxState.{route_of}
use Rattle.demux_node.specs.DemuxTable.{close_oldest, id_of_route, id_of_write, is_open_write}
use Rattle.demux_node.specs.DemuxTrail.{OpenArePending, closed_write, open_write, route_of_held}
use Rattle.demux_node.specs.declared.route.Route.{Route}
use Rattle.demux_node.specs.declared.route.WriteRoute.{WriteRoute}
use Rattle.plain_lists.proofs.CutLemmas.{oldest-first, without-map}
use Rattle.plain_lists.proofs.KeyLemmas.{of_key-append, of_key-map}
use Rattle.plain_lists.proofs.PrefixLemmas.{prefix_append, prefix_flat_map, prefix_length, prefix_map, prefix_same, prefix_trans}
use Rattle.plain_lists.specs.Keys.{of_key, without_oldest}
use Rattle.plain_lists.specs.Prefixes.{Agree, IsPrefix}

module _ (port : ℕ → ℕ) where
  abbrev entries_of : List Route → List (Waiting Asked) → List WriteRoute
  entries_of closed ws = map closed_write closed ++ map (open_write port) ws

  -- the first open entry is that of the first pending write
  pub first-open : (closed : List Route) (ws : List (Waiting Asked)) (e : WriteRoute) → find is_open_write (entries_of closed ws) ≡ Some e →
      (w : Waiting Asked) × (others : List (Waiting Asked)) × (ws ≡ w ∷ others) × (e ≡ open_write port w)
  first-open [] [] e is = absurd (cc)
  first-open [] (w ∷ others) e is =
      let found : Some (open_write port w) ≡ Some e = is in
      let same : open_write port w ≡ e = cc in
      (w, others, refl, sym same)
  first-open (c ∷ closed) ws e is = first-open closed ws e is

  pub opens-first : (closed : List Route) (x : Waiting Asked) (others : List (Waiting Asked)) → find is_open_write (entries_of closed (x ∷ others)) ≡ Some (open_write port x)
  opens-first [] x others = refl
  opens-first (c ∷ closed) x others = opens-first closed x others

  pub opens-none : (closed : List Route) → find is_open_write (entries_of closed []) ≡ None
  opens-none [] = refl
  opens-none (c ∷ closed) = opens-none closed

  close-first : (closed : List Route) (w : Waiting Asked) (others : List (Waiting Asked)) → close_oldest (entries_of closed (w ∷ others)) ≡ entries_of (closed ++ route_of_held port w ∷ []) others
  close-first [] w others = refl
  close-first (c ∷ closed) w others = ap (λ t. closed_write c ∷ t) (close-first closed w others)

module _ (port : ℕ → ℕ) (aw : List Addr) (w : List WBeat) (writes : List WriteRoute) (has : OpenArePending port aw w writes) where
  abbrev pending_ones : List (Waiting Asked)
  pending_ones = pending_asked (length w) (map burst_asked aw)

  -- one more beat of data
  module _ (beat : WBeat) (agree : Agree (map mark_of_data (w ++ beat ∷ [])) (marks (map burst_asked aw))) (x : Waiting Asked) (others : List (Waiting Asked)) (first : pending_ones ≡ x ∷ others) where
    counted : pending_asked (length (map mark_of_data w)) (map burst_asked aw) ≡ x ∷ others
    counted = ap (λ (n : ℕ). pending_asked n (map burst_asked aw)) (length-map w mark_of_data) ∙ first

    beat-is : mark_of_data beat ≡ next_mark x
    beat-is = next_beat (map burst_asked aw) (map mark_of_data w) (mark_of_data beat) x others
        (subst (λ (ms : List Mark). Agree ms (marks (map burst_asked aw))) (map-append mark_of_data w (beat ∷ [])) agree) counted

    pub beat-number : beat.tag.txn ≡ x.request.number
    beat-number = ap (λ (m : Mark). m.number) beat-is

    left : pending_asked (length (w ++ beat ∷ [])) (map burst_asked aw) ≡ advanced len_of_asked (x ∷ others)
    left =
        let longer : length (w ++ beat ∷ []) ≡ suc (length w) = omega (arith, length-append w (beat ∷ [])) in
        ap (λ (n : ℕ). pending_asked n (map burst_asked aw)) longer ∙ pending-beat len_of_asked (length w) (map burst_asked aw) ∙ ap (advanced len_of_asked) first

    in-order : IsPrefix (map mark_of_data (w ++ beat ∷ [])) (marks (map burst_asked aw))
    in-order =
        let more = beat_keeps_order (map burst_asked aw) (map mark_of_data w) x others has.in_order counted in
        prefix_same (map-append mark_of_data w (beat ∷ []) ∙ ap (λ (m : Mark). map mark_of_data w ++ m ∷ []) beat-is) more

    pub data-goes : (last : Bool) → beat.last ≡ last → OpenArePending port aw (w ++ beat ∷ []) (cond last (close_oldest writes) writes)
    data-goes true is =
        let ends : (x.done == x.request.len) ≡ true = sym (ap (λ (m : Mark). m.last) beat-is) ∙ is in
        let gone : pending_asked (length (w ++ beat ∷ [])) (map burst_asked aw) ≡ others = left ∙ ap (λ (b : Bool). cond b others (record { request = x.request; done = suc x.done } ∷ others)) ends in
        record {
          closed = has.closed ++ route_of_held port x ∷ [];
          entries =
              ap close_oldest (has.entries ∙ ap (entries_of port has.closed) first)
              ∙ close-first port has.closed x others ∙ ap (entries_of port (has.closed ++ route_of_held port x ∷ [])) (sym gone);
          in_order = in-order;
        }
    data-goes false is =
        let more : (x.done == x.request.len) ≡ false = sym (ap (λ (m : Mark). m.last) beat-is) ∙ is in
        let next : Waiting Asked = record { request = x.request; done = suc x.done } in
        let stays : pending_asked (length (w ++ beat ∷ [])) (map burst_asked aw) ≡ next ∷ others = left ∙ ap (λ (b : Bool). cond b others (next ∷ others)) more in
        record {
          closed = has.closed;
          entries = has.entries ∙ ap (entries_of port has.closed) first ∙ ap (entries_of port has.closed) (sym stays);
          in_order = in-order;
        }

  -- one more address
  pub address-goes : (a : Addr) → OpenArePending port (aw ++ a ∷ []) w (writes ++ record { id = a.id; port = port a.tag.txn; is_open = true } ∷ [])
  address-goes a =
      let bursts = map burst_asked aw in
      let more : map burst_asked (aw ++ a ∷ []) ≡ bursts ++ burst_asked a ∷ [] = map-append burst_asked aw (a ∷ []) in
      let waits : pending_asked (length w) (map burst_asked (aw ++ a ∷ [])) ≡ pending_ones ++ fresh (burst_asked a) ∷ [] =
      ap (pending_asked (length w)) more ∙ pending-request len_of_asked (length w) bursts (burst_asked a) (omega (arith, prefix_length has.in_order, length-map w mark_of_data, length-marks bursts)) in
      record {
        closed = has.closed;
        entries =
            ap (λ (es : List WriteRoute). es ++ record { id = a.id; port = port a.tag.txn; is_open = true } ∷ []) has.entries
            ∙ append_assoc (map closed_write has.closed) (map (open_write port) pending_ones) (record { id = a.id; port = port a.tag.txn; is_open = true } ∷ [])
            ∙ ap (λ (es : List WriteRoute). map closed_write has.closed ++ es) (sym (map-append (open_write port) pending_ones (fresh (burst_asked a) ∷ [])))
            ∙ ap (entries_of port has.closed) (sym waits);
        in_order = prefix_trans has.in_order (prefix_flat_map marks_of (prefix_map burst_asked (prefix_append aw (a ∷ []))));
      }

  -- how many of an ID are entries, and how many of these lack data
  module _ (held_ones : List (Waiting Asked)) (id : ℕ) (same : map route_of writes ≡ map (route_of_held port) held_ones) where
    count-held : length (of_key id_of_write id writes) ≡ length (of_key id_of_waiting id held_ones)
    count-held =
        sym (length-map (of_key id_of_write id writes) route_of)
        ∙ ap (λ (t : List Route). length t) (sym (of_key-map id_of_route route_of id writes) ∙ ap (of_key id_of_route id) same ∙ of_key-map id_of_route (route_of_held port) id held_ones)
        ∙ length-map (of_key id_of_waiting id held_ones) (route_of_held port)

    count-open : length (of_key id_of_write id (map (open_write port) pending_ones)) ≡ length (of_key id_of_waiting id pending_ones)
    count-open =
        ap (λ (t : List WriteRoute). length t) (of_key-map id_of_write (open_write port) id pending_ones) ∙ length-map (of_key id_of_waiting id pending_ones) (open_write port)

    all-entries : length (of_key id_of_write id writes) ≡ length (of_key id_of_write id (entries_of port has.closed pending_ones))
    all-entries = ap (λ (es : List WriteRoute). length (of_key id_of_write id es)) has.entries

    -- at least as many are held as lack data
    pub open-are_held : length (of_key id_of_waiting id pending_ones) ≤ length (of_key id_of_waiting id held_ones)
    open-are_held =
        let parts : length (of_key id_of_write id (entries_of port has.closed pending_ones))
        ≡ length (of_key id_of_write id (map closed_write has.closed)) + length (of_key id_of_write id (map (open_write port) pending_ones)) =
        ap (λ (es : List WriteRoute). length es) (of_key-append id_of_write id (map closed_write has.closed) (map (open_write port) pending_ones))
        ∙ length-append (of_key id_of_write id (map closed_write has.closed)) (of_key id_of_write id (map (open_write port) pending_ones)) in
        omega (arith, count-held, count-open, all-entries, parts)

    -- one more response, of an ID of which more are held than lack data
    pub response-goes : length (of_key id_of_waiting id pending_ones) < length (of_key id_of_waiting id held_ones) → OpenArePending port aw w (without_oldest id_of_write id writes)
    response-goes less = record {
      closed = without_oldest id_of_route id has.closed;
      entries =
          ap (without_oldest id_of_write id) has.entries
          ∙ oldest-first id_of_write id (map closed_write has.closed) (map (open_write port) pending_ones) (omega (arith, less, count-held, count-open, all-entries))
          ∙ ap (λ (es : List WriteRoute). es ++ map (open_write port) pending_ones) (without-map closed_write id_of_write id has.closed);
      in_order = has.in_order;
    }
