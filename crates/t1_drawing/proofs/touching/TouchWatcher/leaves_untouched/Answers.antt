use Rattle.std.proofs.Common.{◌≡◌, not, ap, refl, ◌∙◌}
use Rattle.std.specs.List.{list_any}
use Rattle.t1_drawing.specs.declared.direction.Direction.TheVariants.{Across, Upright}
use Rattle.t1_drawing.specs.Touching.{has_untouched, stems_of_glyph}
use Rattle.t1_drawing.proofs.Touches.{untouched_watched}
use Rattle.t1_drawing.proofs.touching.TouchWatcher.leaves_untouched.Goals as goal

pub returns : goal.returns
returns c = λ before st.
    let across : c.one_is_untouched-across.result ≡ has_untouched Across before =
    c.one_is_untouched-across.ensures ∙ ap (λ stems. list_any (λ stem. not stem.touched) stems) (c.as_slice.ensures.value ∙ st.across) ∙ untouched_watched Across (stems_of_glyph Across before) in
    let upright : c.one_is_untouched-upright.result ≡ has_untouched Upright before =
    c.one_is_untouched-upright.ensures ∙ ap (λ stems. list_any (λ stem. not stem.touched) stems) (c.as_slice-2.ensures.value ∙ st.upright) ∙ untouched_watched Upright (stems_of_glyph Upright before) in
    rw (across, upright, st.has_strokes) refl
