-- What UPIUs of the host and resets lead to.
use Rattle.std.proofs.Common.{◌≡◌, ℕ, List, ◌∷◌, ◌++◌, Option, refl, sym, ◌∙◌, ap, subst}
use Rattle.std.proofs.lemmas.List.{append_assoc, append-nil}
use Rattle.std.specs.Prelude.{flat_map}
use Rattle.flat_unit.specs.declared.event.Event.TheVariants.{Host, Device, Reset}
use Rattle.flat_unit.specs.Print.{print, line_of}
use Rattle.flat_unit.specs.Replays.{Progress, LineTo, received, reset}
use Rattle.flat_unit.specs.Trace.{Upiu, ResetLine}
use Rattle.flat_unit.proofs.History.{print-▹}
use Rattle.hpb_device.specs.declared.device.Sent.{Sent}
use Rattle.hpb_device.specs.declared.device.Sent.TheVariants.{Nothing, Upiu as UpiuSent}
use Rattle.hpb_device.specs.Standing.{answer_events, sizes_of}
use Rattle.hpb_device.specs.State.{DeviceState}
use Rattle.replay_standing.specs.Standing.{Standing}
use Rattle.trace_replay.specs.Moments.{Leads}
use Rattle.hpb_outside.specs.Writes.{HasWrittenUpTo}
use Rattle.run_output.proofs.Gathered.{events_gathered}
use Rattle.run_output.proofs.Written.{gathers_more}
use Rattle.replay_standing.proofs.Receiving.{Received, WasReset, reset_standing, told_events, told_standing}

-- the lines of bytes and of what answers them
pub told_lines : (gathered one two bytes out : List ℕ) (sent : Sent) → one ≡ gathered ++ line_of (Host bytes) → (sent ≡ UpiuSent → two ≡ one ++ line_of (Device out)) → (sent ≡ Nothing → two ≡ one)
    → two ≡ gathered ++ flat_map line_of (Host bytes ∷ answer_events sent out)
told_lines gathered one two bytes out Nothing first answer none = none refl ∙ (first ∙ ap (λ (l : List ℕ). gathered ++ l) (sym (append-nil (line_of (Host bytes)))))
told_lines gathered one two bytes out UpiuSent first answer none =
    answer refl ∙ (ap (λ (l : List ℕ). l ++ line_of (Device out)) first ∙ (append_assoc gathered (line_of (Host bytes)) (line_of (Device out))
    ∙ ap (λ (l : List ℕ). gathered ++ (line_of (Host bytes) ++ l)) (sym (append-nil (line_of (Device out))))))

told_leads : (start old new : DeviceState) (before w : Option (List ℕ)) (gathered gathered_now bytes out : List ℕ) (sent : Sent) (p : Progress) → Standing start old p
    → Received old new bytes out sent → HasWrittenUpTo before w (print p.events) gathered → gathered_now ≡ gathered ++ flat_map line_of (Host bytes ∷ answer_events sent out)
    → Leads (LineTo (sizes_of start) (Upiu bytes) p) start new before w gathered_now
told_leads start old new before w gathered gathered_now bytes out sent p at got printed is = record {
  moment = received (sizes_of start) p bytes;
  reached = refl;
  standing = told_standing start old new bytes out sent p at got;
  printed = rw (told_events start old new bytes out sent p at got, is) (events_gathered before w p.events (Host bytes ∷ answer_events sent out) gathered printed);
}

-- bytes of the host, whose lines are gathered
pub received_leads : (start old new : DeviceState) (before w : Option (List ℕ)) (gathered one two bytes out : List ℕ) (sent : Sent) (p : Progress)
    → Standing start old p → Received old new bytes out sent → HasWrittenUpTo before w (print p.events) gathered → one ≡ gathered ++ line_of (Host bytes)
    → (sent ≡ UpiuSent → two ≡ one ++ line_of (Device out)) → (sent ≡ Nothing → two ≡ one)
    → Leads (LineTo (sizes_of start) (Upiu bytes) p) start new before w two
received_leads start old new before w gathered one two bytes out sent p at got printed first answer none =
    told_leads start old new before w gathered two bytes out sent p at got printed (told_lines gathered one two bytes out sent first answer none)

-- a reset, whose line is gathered
pub reset_leads : (start old new : DeviceState) (before w : Option (List ℕ)) (gathered now : List ℕ) (p : Progress) → WasReset old new → Standing start old p
    → HasWrittenUpTo before w (print p.events) gathered → now ≡ gathered ++ line_of Reset → Leads (LineTo (sizes_of start) ResetLine p) start new before w now
reset_leads start old new before w gathered now p is at printed line = record {
  moment = reset p;
  reached = refl;
  standing = reset_standing start old new p is at;
  printed = rw line (subst (λ (text : List ℕ). HasWrittenUpTo before w text (gathered ++ line_of Reset)) (sym (print-▹ p.events Reset))
      (gathers_more before w (print p.events) gathered (line_of Reset) printed));
}
