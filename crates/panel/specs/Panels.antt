-- A panel as the statements see it. Assumes nothing.
--     PanelState K          what a panel with this kind of cost is
--     opened                a panel on which nothing stands yet
--     leaving st p          the panel p where st stands
use Rattle.std.specs.Prelude.{ℕ}
use Rattle.panel.specs.declared.sheet.Sheet.{Sheet}
use Rattle.panel.specs.Standing.{Standing, nothing_stands}

-- its sheet, its kind of cost, how many places its register has, and what stands
pub record PanelState (K : Type 0) : Type 0 where
  pub sheet : Sheet
  pub kind : K
  pub places : ℕ
  pub standing : Standing

abbrev pub opened : {K : Type 0} → Sheet → K → ℕ → PanelState K
opened sheet kind places = record { sheet = sheet; kind = kind; places = places; standing = nothing_stands }

abbrev pub leaving : {K : Type 0} → Standing → PanelState K → PanelState K
leaving st p = record { sheet = p.sheet; kind = p.kind; places = p.places; standing = st }
