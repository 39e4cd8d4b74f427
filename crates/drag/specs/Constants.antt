-- The decimal constants of the drag formulas, each named once by its decimal. `Decimals` shows that each pattern is the binary64 number nearest its decimal.
use Rattle.std.specs.Prelude.{Float}
use Rattle.elementary.specs.Arithmetic.{bits}

abbrev pub 3·0 : Float
3·0 = bits 0x4008000000000000

abbrev pub 40·0 : Float
40·0 = bits 0x4044000000000000

abbrev pub 51·0 : Float
51·0 = bits 0x4049800000000000

abbrev pub 10000·0 : Float
10000·0 = bits 0x40c3880000000000

abbrev pub 0·0148 : Float
0·0148 = bits 0x3f8e4f765fd8adac

abbrev pub 0·032 : Float
0·032 = bits 0x3fa0624dd2f1a9fc

abbrev pub 0·035 : Float
0·035 = bits 0x3fa1eb851eb851ec

abbrev pub 0·1 : Float
0·1 = bits 0x3fb999999999999a

abbrev pub 0·12 : Float
0·12 = bits 0x3fbeb851eb851eb8

abbrev pub 0·13 : Float
0·13 = bits 0x3fc0a3d70a3d70a4

abbrev pub 0·15 : Float
0·15 = bits 0x3fc3333333333333

abbrev pub 0·166 : Float
0·166 = bits 0x3fc53f7ced916873

abbrev pub 0·18 : Float
0·18 = bits 0x3fc70a3d70a3d70a

abbrev pub 0·2 : Float
0·2 = bits 0x3fc999999999999a

abbrev pub 0·25 : Float
0·25 = bits 0x3fd0000000000000

abbrev pub 0·58 : Float
0·58 = bits 0x3fe28f5c28f5c28f

abbrev pub 0·76 : Float
0·76 = bits 0x3fe851eb851eb852

abbrev pub 0·85 : Float
0·85 = bits 0x3feb333333333333

abbrev pub 1·5 : Float
1·5 = bits 0x3ff8000000000000

abbrev pub 1·84 : Float
1·84 = bits 0x3ffd70a3d70a3d71

abbrev pub 5·6 : Float
5·6 = bits 0x4016666666666666

abbrev pub 1·039 : Float
1·039 = bits 0x3ff09fbe76c8b439

abbrev pub π/2 : Float
π/2 = bits 0x3ff921fb54442d18

-- Reynolds number below which friction is held, and its value there (p. 44, eq. 3.81)
abbrev pub low_reynolds : Float
low_reynolds = 10000·0

abbrev pub low_reynolds_friction : Float
low_reynolds_friction = 0·0148
