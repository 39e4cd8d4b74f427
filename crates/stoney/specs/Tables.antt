-- Stoney's nine tables (NASA TR R-100, 1961, figure 12: pressure drag of noses of fineness ratio 3), as the figure was read: a point is a pair of whole
-- numbers, thousandths of Mach and ten-thousandths of the drag coefficient on the base area. Panel (a) is Stoney's flight models, panel (b) the wind tunnel
-- of his reference 30, which starts at Mach 1.2.
use Rattle.std.specs.Prelude.{ℕ, List, [], ◌∷◌, get_or}
use Rattle.stoney.specs.declared.StoneyNose.{StoneyNose}
use Rattle.stoney.specs.declared.StoneyNose.TheVariants.{PowerQuarter, PowerHalf, PowerThreeQuarters, ParabolaHalf, ParabolaThreeQuarters, Parabola, Ellipsoid, LvHaack, VonKarman}

-- the order of the Rust's `ALL`
abbrev pub noses : List StoneyNose
noses = PowerQuarter ∷ PowerHalf ∷ PowerThreeQuarters ∷ ParabolaHalf ∷ ParabolaThreeQuarters ∷ Parabola ∷ Ellipsoid ∷ LvHaack ∷ VonKarman ∷ []

-- the nose of a number from 0; past the list it is the last
abbrev pub nose_at : ℕ → StoneyNose
nose_at n = get_or noses n VonKarman

abbrev pub tabled : StoneyNose → List (ℕ × ℕ)
-- Power series x^1/4: panel (b); read to ±0.0014, at most ±0.003
tabled PowerQuarter =
    (1200, 1410) ∷ (1250, 1480) ∷ (1300, 1558) ∷ (1400, 1689) ∷ (1500, 1809) ∷ (1600, 1894) ∷ (1800, 2051) ∷ (2000, 2165) ∷ (2400, 2331) ∷
    (2800, 2441) ∷ (3200, 2480) ∷ (3587, 2491) ∷ []
-- Power series x^1/2: panel (a), configuration 63; read to ±0.0014, at most ±0.0023
tabled PowerHalf =
    (800, 0) ∷ (850, 0) ∷ (900, 0) ∷ (934, 0) ∷ (950, 69) ∷ (1000, 460) ∷ (1050, 597) ∷ (1100, 573) ∷ (1150, 675) ∷ (1200, 800) ∷ (1250, 853) ∷
    (1300, 851) ∷ (1400, 847) ∷ (1500, 856) ∷ (1600, 860) ∷ (1800, 885) ∷ (1941, 898) ∷ []
-- Power series x^3/4: panel (a), configuration 61; read to ±0.0015, at most ±0.0048
tabled PowerThreeQuarters =
    (800, 0) ∷ (850, 0) ∷ (870, 0) ∷ (900, 131) ∷ (950, 375) ∷ (1000, 848) ∷ (1050, 1185) ∷ (1057, 1185) ∷ (1100, 1095) ∷ (1150, 1089) ∷
    (1200, 1090) ∷ (1250, 1032) ∷ (1300, 1001) ∷ (1400, 970) ∷ (1500, 932) ∷ (1600, 900) ∷ (1800, 847) ∷ (1967, 789) ∷ []
-- Half parabola, K' = 1/2: panel (a), configuration 57; read to ±0.0016, at most ±0.003
tabled ParabolaHalf =
    (800, 0) ∷ (817, 0) ∷ (850, 57) ∷ (900, 155) ∷ (950, 403) ∷ (1000, 940) ∷ (1050, 1231) ∷ (1081, 1247) ∷ (1100, 1235) ∷ (1150, 1149) ∷
    (1200, 1139) ∷ (1250, 1068) ∷ (1300, 1009) ∷ (1400, 936) ∷ (1500, 877) ∷ (1600, 854) ∷ (1800, 854) ∷ (1968, 864) ∷ []
-- Three-quarter parabola, K' = 3/4: panel (a), configuration 62; read to ±0.0016, at most ±0.0035
tabled ParabolaThreeQuarters =
    (800, 0) ∷ (850, 0) ∷ (900, 0) ∷ (902, 0) ∷ (950, 182) ∷ (1000, 690) ∷ (1050, 889) ∷ (1100, 1049) ∷ (1136, 1078) ∷ (1150, 1072) ∷ (1200, 1036) ∷
    (1250, 997) ∷ (1300, 932) ∷ (1400, 861) ∷ (1500, 820) ∷ (1600, 817) ∷ (1800, 797) ∷ (1968, 814) ∷ []
-- Full parabola, K' = 1: panel (a), configuration 59; read to ±0.0016, at most ±0.0046
tabled Parabola =
    (800, 0) ∷ (850, 0) ∷ (900, 0) ∷ (950, 0) ∷ (952, 0) ∷ (1000, 370) ∷ (1050, 898) ∷ (1100, 1073) ∷ (1150, 1149) ∷ (1165, 1162) ∷ (1200, 1161) ∷
    (1250, 1145) ∷ (1300, 1134) ∷ (1400, 1103) ∷ (1500, 1078) ∷ (1600, 1067) ∷ (1800, 1062) ∷ (1975, 1073) ∷ []
-- Ellipsoid, the elliptical nose: panel (b); read to ±0.0014, at most ±0.004
tabled Ellipsoid =
    (1200, 1110) ∷ (1250, 1298) ∷ (1300, 1400) ∷ (1400, 1478) ∷ (1500, 1509) ∷ (1600, 1523) ∷ (1800, 1552) ∷ (2000, 1576) ∷ (2400, 1601) ∷
    (2800, 1601) ∷ (3200, 1600) ∷ (3587, 1580) ∷ []
-- L-V Haack, C = 1/3: panel (a), configuration 60; read to ±0.0014, at most ±0.0022
tabled LvHaack =
    (800, 0) ∷ (850, 0) ∷ (900, 0) ∷ (915, 0) ∷ (950, 77) ∷ (1000, 253) ∷ (1050, 650) ∷ (1100, 847) ∷ (1150, 950) ∷ (1200, 1002) ∷ (1250, 1028) ∷
    (1300, 1070) ∷ (1400, 1135) ∷ (1500, 1156) ∷ (1600, 1170) ∷ (1617, 1172) ∷ (1800, 1155) ∷ (1977, 1115) ∷ []
-- Von Kármán, the Haack series with C = 0: panel (a), configuration 58; read to ±0.0014, at most ±0.0022
tabled VonKarman =
    (800, 0) ∷ (850, 0) ∷ (900, 0) ∷ (915, 0) ∷ (950, 77) ∷ (1000, 253) ∷ (1050, 581) ∷ (1100, 694) ∷ (1150, 734) ∷ (1200, 758) ∷ (1250, 779) ∷
    (1300, 825) ∷ (1400, 879) ∷ (1500, 893) ∷ (1553, 898) ∷ (1600, 898) ∷ (1800, 869) ∷ (1994, 794) ∷ []
