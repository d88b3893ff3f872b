-- An effect as its words, which none has none of; and the words in which it crosses to a host.
use Rattle.std.specs.Prelude.{cond, Option, Some, None, List, [], ◌∷◌, ℕ, eqb}
use Rattle.events.specs.Outcome.{wake_effect, event_effect, root_words}
use Rattle.effect.specs.declared.Effect.{Effect}
use Rattle.effect.specs.declared.Effect.TheVariants.{Wake, Event, Root}
use Rattle.effect.specs.declared.EffectWords.{EffectWords}

abbrev pub effect_words : Option Effect → List ℕ
effect_words None = []
effect_words (Some (Wake caller tag)) = wake_effect caller tag
effect_words (Some (Event number flags)) = event_effect number flags
effect_words (Some (Root scheme flags)) = root_words scheme flags

-- the one effect, 0 for none
abbrev pub effect_of : List ℕ → EffectWords
effect_of [] = record { kind = 0; a = 0; b = 0 }
effect_of (k ∷ []) = record { kind = 0; a = 0; b = 0 }
effect_of (k ∷ x ∷ []) = record { kind = 0; a = 0; b = 0 }
effect_of (k ∷ x ∷ y ∷ fx) = record { kind = k; a = x; b = y }

-- what crossed: kind 0 is none
abbrev pub crossed : EffectWords → List ℕ
crossed e = cond (eqb e.kind 0) [] (e.kind ∷ e.a ∷ e.b ∷ [])
