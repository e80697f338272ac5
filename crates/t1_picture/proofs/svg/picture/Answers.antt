use Rattle.std.proofs.Common.{◌+◌, [], arith, ◌≡◌, ℕ, List, Option, ap, refl, ◌∙◌}
use Rattle.std.proofs.lemmas.Result.{IfOk-weaker}
use Rattle.t1_font.specs.Fonts.{FontValue}
use Rattle.t1_outline.specs.declared.composition.Composition.{Composition}
use Rattle.t1_outline.specs.declared.composition.Metrics.{Metrics}
use Rattle.t1_picture.specs.declared.causes.Cause.{Cause}
use Rattle.t1_picture.specs.declared.frame.Frame.{Frame}
use Rattle.t1_picture.specs.declared.marks.FaultMark.{FaultMark}
use Rattle.t1_picture.specs.Drawings.{DrawingView, components_of, drawing_of, drawing_view, texts_of}
use Rattle.t1_picture.specs.Frames.{frame_of}
use Rattle.t1_picture.specs.Layers.{LayersView, layers_view}
use Rattle.t1_picture.specs.Legends.{legend_of}
use Rattle.t1_picture.specs.Marks.{FaultLayersView, FaultsView, fault_layers, fault_layers_view, faults_of, faults_view, outlines_among}
use Rattle.t1_picture.specs.Pictures.{bounds_of, svg_text}
use Rattle.t1_picture.specs.Subjects.{subject_of}
use Rattle.t1_picture.proofs.svg.picture.Goals as goal
use Rattle.t1_report.specs.Checked.{checked}

-- The same layers of the same faults.
same_layers : (marks marks' : List FaultMark) (causes causes' : List Cause) (components components' : List ℕ) → marks ≡ marks' → causes ≡ causes'
    → components ≡ components'
    → ◌≡◌ {A = FaultLayersView} (record { marks = marks; causes = causes; components = components })
    (record { marks = marks'; causes = causes'; components = components' })
same_layers marks marks' causes causes' components components' ms cs os = rw (ms, cs, os) refl

-- The same text of the same things.
same_text : (font : FontValue) (frame frame' : Frame) (title title' : List ℕ) (layers layers' : LayersView) (metrics metrics' : Option Metrics)
    (faults faults' : FaultLayersView) (lines lines' : List (List ℕ)) → frame ≡ frame' → title ≡ title' → layers ≡ layers' → metrics ≡ metrics'
    → faults ≡ faults' → lines ≡ lines' → svg_text frame font title layers metrics faults lines ≡ svg_text frame' font title' layers' metrics' faults' lines'
same_text font frame frame' title title' layers layers' metrics metrics' faults faults' lines lines' fs ts ls ms ks ns = rw (fs, ts, ls, ms, ks, ns) refl

pub returns : goal.returns
returns c =
    IfOk-weaker c.svg.result _ _ (λ text is.
    let s = subject_of c.args.view.now in
    let few = c.glyphs-few_glyphs.ensures.few in
    let shown = c.faults_of_a_unit_are_the_reports.ensures.some (checked s.font s.edition) s.waivers (s.glyph + 1) few
    (omega (arith, c.len-few_waivers.ensures.len, c.len-few_waivers.ensures.few)) in
    let without = c.faults_of_a_unit_are_the_reports.ensures.some (checked s.font s.edition) [] (s.glyph + 1) few (omega arith) in
    let faults = shown.0 in
    let all = without.0 in
    let are = shown.1 in
    let are_all = without.1 in
    let drawing : drawing_view c.in_ok-drawing.drawing ≡ drawing_of s = c.in_ok-drawing.ensures in
    let told : faults_view c.in_ok-faults.faults ≡ faults_of s faults all = c.in_ok-faults.ensures faults all are are_all in
    let bounds : c.bounds_of-bounds.result ≡ bounds_of (drawing_of s) (faults_of s faults all) =
    c.bounds_of-bounds.ensures
    ∙ ap (λ (d : DrawingView). bounds_of d (faults_view c.in_ok-faults.faults)) drawing
    ∙ ap (λ (f : FaultsView). bounds_of (drawing_of s) f) told in
    let components : c.as_str-2.result.now ≡ outlines_among s (faults_of s faults all).causes (components_of s) =
    c.as_str-2.ensures.value ∙ c.in_ok-components.ensures
    ∙ ap (λ (cs : List Cause). outlines_among s cs (components_of s))
    (c.as_slice.ensures.value ∙ ap (λ (f : FaultsView). f.causes) told) in
    let layers : fault_layers_view c.layers-layers.result ≡ fault_layers s (faults_of s faults all) =
    c.layers-layers.ensures
    ∙ same_layers _ _ _ _ _ _
    (ap (λ ms. ms.items) c.in_ok-lines.ensures.marks ∙ ap (λ (f : FaultsView). f.marks) told)
    (ap (λ cs. cs.items) c.in_ok-lines.ensures.causes ∙ ap (λ (f : FaultsView). f.causes) told)
    components in
    record {
      faults = faults;
      are = are;
      all = all;
      are_all = are_all;
      is = is
          ∙ same_text s.font c.of-frame.result _ c.as_str-3.result.now _ _ _ _ _ (fault_layers_view c.layers-layers.result) _
          (texts_of c.as_slice-2.result.now) _
          (c.of-frame.ensures ∙ ap frame_of bounds)
          (c.as_str-3.ensures.value ∙ c.in_ok-title.ensures)
          (ap layers_view c.in_ok-lines.ensures.layers ∙ ap (λ (d : DrawingView). d.layers) drawing)
          (ap (λ (k : Composition). k.metrics) c.in_ok-lines.ensures.composition ∙ ap (λ (d : DrawingView). d.composition.metrics) drawing)
          layers
          (ap texts_of c.as_slice-2.ensures.value ∙ c.in_ok-lines.ensures.lines
          ∙ ap (λ (d : DrawingView). legend_of s d (faults_view c.in_ok-faults.faults)) drawing
          ∙ ap (λ (f : FaultsView). legend_of s (drawing_of s) f) told);
    }) c.svg.ensures
